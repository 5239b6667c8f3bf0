-- After i turns the rule numbers read stand in front, and what is left of the walk is read from the loop's place.
use mathlib.Core.Path.{◌≡◌}
use mathlib.Core.List.{[]}
use Prim.Native.Nat.{◌+◌, ◌-◌, ◌*◌, ◌≤◌}
use lib.ListN.{take}
use Rattle.packing.specs.Source.{bytes}
use Rattle.packing.specs.Reading.{walk_from}
use Rattle.reading_reader.proofs.read_reading.Given as goal

abbrev pub invariant-loop-number : goal.invariant-loop-number
invariant-loop-number l =
    (l.at ≤ 34 + 8 * l.number-index)
    × (walk_from (bytes 31 l.block) l.rules (l.number-index-end - l.number-index) l.at (take l.number-index l.number-items)
    ≡ walk_from (bytes 31 l.block) l.rules (2 * l.n - 1) l.initial.at [])
