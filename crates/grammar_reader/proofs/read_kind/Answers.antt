-- `grammar_reader::read_kind` meets its contract: the kind, the grammar and the end, as the definition has them. Assumes nothing.
use mathlib.Core.Path.{◌≡◌, refl, sym, ◌∙◌}
use mathlib.Core.Bool.{Bool}
use mathlib.Core.List.{List}
use Prim.Native.Nat.{ℕ, ◌≤◌}
use native.Mathlib.Omega.{arith}
use borrow.Author.Rules.{rules}
use Rattle.std.specs.Prelude.{Result, Err}
use Rattle.bits.specs.Bits.{ended}
use Rattle.packing.specs.Parse.{parsed, failed, finish}
use Rattle.packing.specs.Source.{bytes, field_at, Field}
use Rattle.packing.specs.Refusal.{number}
use Rattle.packing.specs.Grammar.{block_kind, kind_number, grammar_from, block_by}
use Rattle.packing.specs.declared.refusal.Refusal.{Refusal}
use Rattle.rules_reader.proofs.Taken.{taken}
use Rattle.grammar_reader.specs.Answer.{MarkedTold}
use Rattle.grammar_reader.specs.declared.Sizes.{Sizes}
use Rattle.grammar_reader.proofs.Grammars.{end_refused, end_passed, end_failed}
use Rattle.grammar_reader.proofs.read_kind.Goals as goal

-- after the kind, or without it
module _ (s : List ℕ) (b : Bool) {f : Field} (same : f ≡ block_kind (kind_number b) 2) where
  no_kind : {before rules marks : List ℕ} (r : Refusal) → failed (number r) ≡ field_at (bytes 1 s) 0 f
      → MarkedTold (block_by b s) (Err r) before rules marks
  unfolding block_by
  no_kind r e = rw (← rw same at e) (record { answer = refl; stands = tt; laid = tt; bounds = tt })

  after_kind : {v at : ℕ} {r : Result (Sizes × Bool) Refusal} {before rules marks : List ℕ} → parsed v at ≡ field_at (bytes 1 s) 0 f
      → MarkedTold (finish (ended s) 7 (grammar_from b (bytes 1 s) at)) r before rules marks → MarkedTold (block_by b s) r before rules marks
  unfolding block_by
  after_kind e t = rw (← rw same at e) t

  kind_near : {v next : ℕ} → parsed v next ≡ field_at (bytes 1 s) 0 f → next ≤ 4
  kind_near e = (taken (block_kind (kind_number b) 2) 4 (bytes 1 s) 0 (omega arith) (omega arith) (sym (rw same at e))).1

pub returns-in_default : goal.returns-in_default
returns-in_default c =
    let told : c.in_default.field-0 ≡ c.unwrap_err.result = cc in
    no_kind _ _ c.kind_field.ensures.0 _ (rw told at c.in_default.ensures)

pub read_grammar-requires : goal.read_grammar-requires
read_grammar-requires c =
    (omega (arith, kind_near c.args.block.now c.args.marked c.kind_field.ensures.0 c.in-Ok.ensures), c.requires.0, c.requires.1)

pub zero_from-requires : goal.zero_from-requires
zero_from-requires c =
    omega (arith, kind_near c.args.block.now c.args.marked c.kind_field.ensures.0 c.in-Ok.ensures, c.in_ok-sizes.ensures.near)

pub returns-in_err-sizes : goal.returns-in_err-sizes
returns-in_err-sizes c =
    let block = c.args.block.now in
    after_kind block _ c.kind_field.ensures.0 c.in-Ok.ensures
    (end_refused _ (bytes 1 block) _ _ _ _ (ended block) 7 c.from_residual.result (search rules) c.in_err-sizes.ensures)

pub returns-then-not-zero_from : goal.returns-then-not-zero_from
returns-then-not-zero_from c =
    let block = c.args.block.now in
    after_kind block _ c.kind_field.ensures.0 c.in-Ok.ensures
    (end_failed _ (bytes 1 block) _ _ _ _ (ended block) 7 c.in_ok-sizes.ensures refl (sym c.zero_from.ensures ∙ c.if-not-zero_from.true))

pub returns : goal.returns
returns c =
    let block = c.args.block.now in
    after_kind block _ c.kind_field.ensures.0 c.in-Ok.ensures
    (end_passed _ (bytes 1 block) _ _ _ _ (ended block) 7 c.in_ok-sizes.ensures (sym c.zero_from.ensures ∙ c.if-not-zero_from.false))
