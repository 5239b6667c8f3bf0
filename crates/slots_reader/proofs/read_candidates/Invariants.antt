-- `slots_reader::read_candidates` meets its contract: the candidates read so far stand in the array, and what the
-- definition reads behind them is what it reads from the start. Assumes nothing.
use mathlib.Core.Path.{◌≡◌}
use mathlib.Core.List.{List, []}
use Prim.Native.Nat.{◌+◌, ◌-◌, ◌*◌, ◌≤◌}
use lib.ListN.{length}
use Rattle.packing.specs.Meaning.{Candidate}
use Rattle.packing.specs.Read.{source_of}
use Rattle.packing.specs.Utterance.{candidates_from}
use Rattle.packing.specs.Store.{store_all}
use Rattle.slots_reader.specs.Placed.{candidate_numbers}
use Rattle.slots_reader.proofs.read_candidates.Given as goal

abbrev pub invariant-loop-i : goal.invariant-loop-i
invariant-loop-i l =
    (l.at ≤ l.initial.at + 24 * l.i)
    × ((cs : List Candidate) × (length cs ≡ l.i) × (l.slots ≡ store_all l.initial.slots l.p.to (candidate_numbers l.words cs))
    × (candidates_from (source_of l.src) l.words (l.count - l.i) l.least l.at cs
    ≡ candidates_from (source_of l.src) l.words l.count 0 l.initial.at []))
