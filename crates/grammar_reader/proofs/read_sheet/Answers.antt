-- `grammar_reader::read_sheet` meets its contract: the length, the kind and the grammar, as the definition has them. Assumes nothing.
use mathlib.Core.Path.{◌≡◌, refl}
use mathlib.Core.Bool.{Bool, true}
use mathlib.Core.List.{List}
use Prim.Native.Nat.{ℕ, ◌≤◌}
use native.Mathlib.Omega.{arith}
use borrow.Author.Rules.{rules}
use borrow.Author.Tests.{lt-ltb, le-ltb}
use lib.ListN.{length}
use Rattle.std.specs.Prelude.{Result}
use Rattle.packing.specs.Parse.{finish}
use Rattle.packing.specs.Source.{numbers}
use Rattle.packing.specs.Grammar.{grammar_from, marking_of, sheet_by, marked_sheet}
use Rattle.packing.specs.declared.refusal.Refusal.{Refusal}
use Rattle.packing.proofs.Parse.{finish_always}
use Rattle.grammar_reader.specs.Answer.{MarkedTold}
use Rattle.grammar_reader.specs.declared.Sizes.{Sizes}
use Rattle.grammar_reader.proofs.Grammars.{end_refused, end_passed}
use Rattle.grammar_reader.proofs.read_sheet.Goals as goal

-- a sheet that was read has its three numbers
module _ (s : List ℕ) (b : Bool) {r : Result (Sizes × Bool) Refusal} {before rules marks : List ℕ} where
  long : 3 ≤ length s → b ≡ marking_of (numbers s) → MarkedTold (finish (λ (at : ℕ). true) 41 (grammar_from b (numbers s) 0)) r before rules marks
      → MarkedTold (marked_sheet s) r before rules marks
  unfolding marked_sheet sheet_by
  long l k t = rw (le-ltb (length s) 3 l, ← k, ← finish_always 41 (grammar_from b (numbers s) 0)) t

pub returns-then-sheet-lt-GRAMMAR_SHEET_HEAD : goal.returns-then-sheet-lt-GRAMMAR_SHEET_HEAD
unfolding marked_sheet sheet_by
returns-then-sheet-lt-GRAMMAR_SHEET_HEAD c =
    rw (lt-ltb (length c.args.sheet.now) 3 (omega arith)) (record { answer = refl; stands = tt; laid = tt; bounds = tt })

pub returns-in_err-sizes : goal.returns-in_err-sizes
returns-in_err-sizes c =
    long _ _ c.if-sheet-lt-GRAMMAR_SHEET_HEAD.false c.is_marked_sheet-marked.ensures
    (end_refused _ _ _ _ _ _ (λ (at : ℕ). true) 41 c.from_residual.result (search rules) c.in_err-sizes.ensures)

pub returns : goal.returns
returns c =
    long _ _ c.if-sheet-lt-GRAMMAR_SHEET_HEAD.false c.is_marked_sheet-marked.ensures
    (end_passed _ _ _ _ _ _ (λ (at : ℕ). true) 41 c.in_ok-sizes.ensures refl)
