-- `grammar_reader::read_block` meets its contract: what was read, without the marks. Assumes nothing.
use mathlib.Core.Path.{◌≡◌, ap}
use mathlib.Core.Bool.{Bool}
use mathlib.Core.List.{List}
use Prim.Native.Nat.{ℕ}
use borrow.Author.Rules.{rules}
use Rattle.std.specs.Prelude.{Result, Ok, Err}
use Rattle.packing.specs.Meaning as meaning
use Rattle.packing.specs.Parse.{Verdict, accepted, refused, ◌then◌}
use Rattle.packing.specs.Refusal.{number}
use Rattle.packing.specs.Read.{as_verdict}
use Rattle.packing.specs.Grammar.{grammar_block}
use Rattle.packing.specs.Flat.{RulesIn}
use Rattle.packing.specs.declared.refusal.Refusal.{Refusal}
use Rattle.grammar_reader.specs.Answer.{sizes, sizes_told, InBounds, RulesOver, MarkedTold}
use Rattle.grammar_reader.specs.declared.Sizes.{Sizes}
use Rattle.grammar_reader.proofs.read_block.Goals as goal

abbrev plain : Verdict meaning.Marked → Verdict meaning.Grammar
plain v = v then λ m. accepted (meaning.grammar_of m)

-- the answer and the array that go with it
abbrev Plain : Verdict meaning.Marked → List ℕ → List ℕ → Result Sizes Refusal → Type 0
Plain v before rules r = (as_verdict r ≡ sizes_told (plain v)) × RulesIn (plain v) rules × InBounds r × RulesOver (plain v) before rules

module _ {before rules marks : List ℕ} where
  refused_told : (v : Verdict meaning.Marked) {e : Refusal} (r : Result Sizes Refusal) → as_verdict r ≡ refused (number e)
      → MarkedTold v (Err e) before rules marks → Plain v before rules r
  refused_told (accepted m) r f t = let h = t.answer in cc
  refused_told (refused n) (Ok z) f t = cc
  refused_told (refused n) (Err r) f t = let h = t.answer in (cc, tt, tt, tt)

  read_told : (v : Verdict meaning.Marked) {z : Sizes} {b : Bool} → MarkedTold v (Ok (z, b)) before rules marks → Plain v before rules (Ok z)
  read_told (accepted m) {z} {b} t =
      let h = t.answer in
      let e : (z, b) ≡ (sizes (meaning.grammar_of m), m.marking) = cc in
      (ap (λ (y : Sizes × Bool). accepted y.0) e, t.stands.0, t.bounds, t.laid)
  read_told (refused n) t = let h = t.answer in cc

pub returns-in_err-sizes : goal.returns-in_err-sizes
unfolding grammar_block
returns-in_err-sizes c = refused_told _ c.from_residual.result (search rules) c.in_err-sizes.ensures

pub returns : goal.returns
unfolding grammar_block
returns c = read_told _ c.in_ok-sizes.ensures
