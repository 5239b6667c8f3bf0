-- What is left of the rows, stored behind those that are, gives all. Assumes nothing.
use mathlib.Core.Path.{◌≡◌}
use lib.ListN.{length}
use Rattle.packing.specs.Store.{store_all}
use Rattle.sheet_writer.specs.Arrays.{marked_rows}
use Rattle.grammar_conversion.proofs.Joined.{Left}
use Rattle.grammar_conversion.proofs.join_marks.Given as goal

abbrev pub invariant-loop-r : goal.invariant-loop-r
invariant-loop-r l =
    (length l.joined ≡ length l.initial.joined)
    × (Left l.rules l.marks l.n l.joined l.r ≡ store_all l.initial.joined 0 (marked_rows l.rules l.marks 0 l.n))
