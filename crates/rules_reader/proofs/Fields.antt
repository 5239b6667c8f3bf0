-- The numbers of a rule that was read are in their ranges, since a symbol is below S and a word below W; each field takes
-- few bits. Assumes nothing.
use mathlib.Core.Path.{◌≡◌, sym}
use mathlib.Core.Bool.{Bool, true, false}
use Prim.Native.Nat.{ℕ, ◌+◌, ◌-◌, ◌*◌, ◌≤◌}
use native.Mathlib.Decide.{ℕ_discrete}
use native.Mathlib.Omega.{arith}
use borrow.Author.Tests.{eq-eqb, ne_eqb}
use lib.Dec.{eqb}
use Rattle.bits.specs.Bits.{pick}
use Rattle.packing.specs.Parse.{parsed}
use Rattle.packing.specs.Source.{Source, field_at, Field}
use Rattle.packing.specs.Grammar.{rule_kind, symbol, rule_word, weight_field, nothing, mark_field, mark_from, first_of, second_of}
use Rattle.packing.proofs.Widths.{byte_width}
use Rattle.packing.specs.Ranges.{Ranges}
use Rattle.rules_reader.proofs.Taken.{taken}

module _ (src : Source) (at : ℕ) {v next : ℕ} where
  pub kind_taken : parsed v next ≡ field_at src at rule_kind → (v ≤ 1) × (next ≤ at + 1)
  kind_taken e = omega (arith, taken rule_kind 1 src at (omega arith) (omega arith) (sym e))

  pub weight_taken : parsed v next ≡ field_at src at weight_field → next ≤ at + 16
  weight_taken e = (taken weight_field 16 src at (omega arith) (omega arith) (sym e)).1

  pub mark_taken : (marked : Bool) → parsed v next ≡ mark_from marked src at → next ≤ at + 1
  mark_taken false e = let same : next ≡ at = cc in omega arith
  mark_taken true e = (taken mark_field 1 src at (omega arith) (omega arith) (sym e)).1

module _ {S W : ℕ} (ranges : Ranges S W) (src : Source) (at : ℕ) {v next : ℕ} where
  symbol_near : parsed v next ≡ field_at src at (symbol S) → (v ≤ 31) × (next ≤ at + 8)
  symbol_near e = omega (arith, taken _ 8 src at (byte_width S (omega arith)) (omega arith) (sym e))

  word_near : parsed v next ≡ field_at src at (rule_word W) → (v ≤ 199) × (next ≤ at + 8)
  word_near e = omega (arith, taken _ 8 src at (byte_width W (omega arith)) (omega arith) (sym e))

  -- the code's field f is the definition's
  module _ {f : Field} (told : parsed v next ≡ field_at src at f) where
    pub symbol_taken : f ≡ symbol S → (v ≤ 31) × (next ≤ at + 8)
    symbol_taken same = symbol_near (rw same at told)

    pub first_taken : (kind : ℕ) → f ≡ first_of S W kind → (v ≤ 199) × (next ≤ at + 8)
    first_taken kind same = go (eqb kind 0) (rw same at told)
      where
        go : (b : Bool) → parsed v next ≡ field_at src at (pick b (symbol S) (rule_word W)) → (v ≤ 199) × (next ≤ at + 8)
        go true e = omega (arith, symbol_near e)
        go false e = word_near e

    -- a word rule's last number is 0
    pub second_taken : (kind : ℕ) → kind ≤ 1 → f ≡ second_of S kind → (v ≤ 31 * (1 - kind)) × (next ≤ at + 8)
    second_taken kind h same = go (ℕ_discrete kind 0)
      where
        e : parsed v next ≡ field_at src at (second_of S kind)
        e = rw same at told

        go : Dec (kind ≡ 0) → (v ≤ 31 * (1 - kind)) × (next ≤ at + 8)
        go (yes p) = omega (arith, symbol_near (rw (eq-eqb kind 0 p) at e))
        go (no p) = omega (arith, taken nothing 1 src at (omega arith) (omega arith) (sym (rw (ne_eqb kind 0 p) at e)))
