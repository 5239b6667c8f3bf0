-- `slots_reader::read_slots` meets its contract: the slots read so far stand in the array, and what the definition
-- reads behind them is what it reads from the start. Assumes nothing.
use mathlib.Core.Path.{◌≡◌}
use mathlib.Core.List.{[]}
use Prim.Native.Nat.{◌+◌, ◌-◌, ◌*◌, ◌≤◌}
use lib.ListN.{length}
use Rattle.packing.specs.Meaning.{Utterance}
use Rattle.packing.specs.Read.{source_of}
use Rattle.packing.specs.Utterance.{slots_from}
use Rattle.packing.specs.Flat.{slot_numbers}
use Rattle.packing.specs.Store.{store_all}
use Rattle.slots_reader.proofs.read_slots.Given as goal

abbrev pub invariant-loop : goal.invariant-loop
invariant-loop l =
    (l.p.at ≤ l.start + 171 * l.counter) × (l.p.to ≤ 15 * l.counter)
    × ((u : Utterance) × (length u ≡ l.counter) × (l.p.to ≡ 0 + length (slot_numbers l.words u))
    × (l.slots ≡ store_all l.initial.slots 0 (slot_numbers l.words u))
    × (slots_from (source_of l.src) l.words (l.count - l.counter) l.p.at u ≡ slots_from (source_of l.src) l.words l.count l.start []))
