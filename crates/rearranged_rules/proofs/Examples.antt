-- Two word rules swapped, as one theorem: the definitions compute.
use mathlib.Core.Path.{◌≡◌, refl}
use mathlib.Core.Option.{some}
use mathlib.Core.List.{[], ◌∷◌}
use Prim.Native.Nat.{ℕ, zero, suc, ◌<◌}
use native.Mathlib.Omega.{arith}
use lib.ListN.{get_elem?}
use Rattle.packing.specs.declared.Rule as R
use Rattle.packing.specs.declared.Rule.TheVariants.{Word}
use Rattle.packing.specs.Meaning.{symbol_of, word, Grammar, Heard, slots, candidate, slot_edges, edges_from}
use Rattle.derivation.specs.Derivation.{leaf}
use Rattle.derivation.specs.List.{ranked}
use Rattle.derivation.specs.HeardList.{least_derivations}
use Rattle.derivation.proofs.Lists.{none≢some}
use Rattle.rearranged_rules.specs.Rearranged.{Rearranged}

abbrev pub swap : ℕ → ℕ
swap zero = 1
swap (suc zero) = 0
swap (suc (suc n)) = suc (suc n)

abbrev ruled : R.Rule → R.Rule → Grammar
ruled a b = record { symbols = 1; words = 2; rules = a ∷ b ∷ [] }

swapped : (a b : R.Rule) → Rearranged swap (ruled a b) (ruled b a)
swapped a b = record { symbols = refl; words = refl; number = refl; moved = moved; one_to_one = one_to_one; onto = onto }
  where
    moved : (r : ℕ) {rule : R.Rule} → get_elem? (a ∷ b ∷ []) r ≡ some rule → get_elem? (b ∷ a ∷ []) (swap r) ≡ some rule
    moved zero e = e
    moved (suc zero) e = e
    moved (suc (suc r)) e = absurd (none≢some e)

    one_to_one : (r s : ℕ) → r < 2 → s < 2 → swap r ≡ swap s → r ≡ s
    one_to_one zero zero h h' e = refl
    one_to_one zero (suc zero) h h' e = absurd (omega arith)
    one_to_one (suc zero) zero h h' e = absurd (omega arith)
    one_to_one (suc zero) (suc zero) h h' e = refl
    one_to_one zero (suc (suc s)) h h' e = absurd (omega arith)
    one_to_one (suc zero) (suc (suc s)) h h' e = absurd (omega arith)
    one_to_one (suc (suc r)) s h h' e = absurd (omega arith)

    onto : (s : ℕ) → s < 2 → (r : ℕ) × (r < 2) × (swap r ≡ s)
    onto zero h = (1, omega arith, refl)
    onto (suc zero) h = (0, omega arith, refl)
    onto (suc (suc s)) h = absurd (omega arith)

-- symbol 0 to word x
abbrev rule_of : ℕ → ℕ → R.Rule
rule_of x w = Word (symbol_of 0) (word x) w

-- one slot of words 0 and 1
abbrev slot : ℕ → ℕ → Heard
slot c c' = slots ((candidate (word 0) c ∷ candidate (word 1) c' ∷ []) ∷ [])

-- N6's first, weights 3 and 5, costs 2 and 0: the word of cost 0 first, whichever rule is 0. And weight 5 and cost 1 twice, one wanted: each
-- order of the rules lists its own rule 0
pub examples :
    ((a b : R.Rule) → Rearranged swap (ruled a b) (ruled b a))
    × (least_derivations (ruled (rule_of 0 3) (rule_of 1 5)) (slot 2 0) 2 ≡ leaf 1 1 ∷ leaf 0 0 ∷ [])
    × (least_derivations (ruled (rule_of 1 5) (rule_of 0 3)) (slot 2 0) 2 ≡ leaf 0 1 ∷ leaf 1 0 ∷ [])
    × (least_derivations (ruled (rule_of 0 5) (rule_of 1 5)) (slot 1 1) 1 ≡ leaf 0 0 ∷ [])
    × (least_derivations (ruled (rule_of 1 5) (rule_of 0 5)) (slot 1 1) 1 ≡ leaf 0 1 ∷ [])
unfolding ranked slot_edges edges_from
examples = (swapped, refl, refl, refl, refl)
