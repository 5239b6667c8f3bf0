-- Each turn's reading lies within the output, and its row within the array.
use mathlib.Core.Path.{◌≡◌, refl, ◌∙◌}
use Prim.Native.Nat.{ℕ, ◌+◌, ◌-◌, ◌*◌, ◌≤◌, ◌<◌}
use native.Mathlib.Nat.{mul-le-mul_right}
use native.Mathlib.Omega.{arith}
use borrow.Author.Rules.{rules}
use borrow.Rule.Slice.PartMut.{same_len_mid}
use lib.ListN.{length}
use Rattle.reading_rows.specs.Model.{RowsSay}
use Rattle.reading_rows.proofs.Rows.{row_length, no_rows, rows_more}
use Rattle.reading_rows.proofs.write_rows.Given as goal

abbrev pub invariant-loop-k : goal.invariant-loop-k
invariant-loop-k l = (l.k ≤ l.m) × (length l.shown ≡ length l.initial.shown) × RowsSay l.rules l.marks l.s l.out l.k l.initial.shown l.shown

abbrev pub decreases-loop-k : goal.decreases-loop-k
decreases-loop-k l = l.m - l.k
