-- What remains behind the first i numbers is written from bit `at` on, and at the end nothing remains.
use Prim.Native.Nat.{◌+◌, ◌*◌, ◌≤◌}
use lib.ListN.{take}
use Rattle.bits.proofs.Remaining.{Remaining}
use Rattle.packing.specs.Source.{flds}
use Rattle.packing.specs.Reading.{walk_entries}
use Rattle.reading_writer.specs.Answer.{walk_in}
use Rattle.reading_writer.proofs.Walk.{rest}
use Rattle.reading_writer.proofs.write_walk.Given as goal

abbrev pub invariant-loop-i : goal.invariant-loop-i
invariant-loop-i l =
    (l.at ≤ 34 + 8 * l.i)
    × Remaining l.initial.out l.start (flds (walk_entries l.rules (walk_in (take (2 * l.n) l.trace)))) l.out l.at (rest l.rules l.trace l.n l.i)
