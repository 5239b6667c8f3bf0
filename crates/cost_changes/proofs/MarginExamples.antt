-- The small examples of N12, over the grammar of N11's: each list, computed.
use mathlib.Core.Path.{◌≡◌, refl}
use mathlib.Core.List.{[], ◌∷◌}
use Prim.Native.Nat.{ℕ}
use Rattle.packing.specs.declared.Rule.TheVariants.{Pair, Word}
use Rattle.packing.specs.Meaning.{symbol_of, word, Grammar, Utterance, candidate, slot_edges, edges_from}
use Rattle.cost_changes.specs.Margins.{entry}
use Rattle.cost_changes.specs.Listed.{margins_of}

abbrev G : Grammar
G = record {
  symbols = 3;
  words = 4;
  rules = Pair (symbol_of 0) (symbol_of 1) (symbol_of 2) 0 ∷ Word (symbol_of 1) (word 0) 5 ∷ Word (symbol_of 1) (word 1) 3
      ∷ Word (symbol_of 2) (word 2) 1 ∷ Word (symbol_of 2) (word 3) 3 ∷ [];
}

-- the costs of words 0 and 1 in slot 0, and of words 2 and 3 in slot 1
abbrev costs : ℕ → ℕ → ℕ → ℕ → Utterance
costs a b c d =
    (candidate (word 0) a ∷ candidate (word 1) b ∷ []) ∷ (candidate (word 2) c ∷ candidate (word 3) d ∷ []) ∷ []

-- words 0 at 5 and 2 at 8, and 2 at 0 and 3 at 9
abbrev other : Utterance
other = (candidate (word 0) 5 ∷ candidate (word 2) 8 ∷ []) ∷ (candidate (word 2) 0 ∷ candidate (word 3) 9 ∷ []) ∷ []

both : margins_of G (costs 4 7 3 2) ≡ entry 2 0 1 14 ∷ entry 2 1 3 14 ∷ []
unfolding slot_edges edges_from margins_of
both = refl

-- by amount before slot
sorted : margins_of G (costs 4 8 3 2) ≡ entry 2 1 3 14 ∷ entry 3 0 1 15 ∷ []
unfolding slot_edges edges_from margins_of
sorted = refl

-- the amount of word 3 would be above its cost
one : margins_of G (costs 4 3 0 9) ≡ entry 4 0 0 10 ∷ []
unfolding slot_edges edges_from margins_of
one = refl

-- a word not heard is not offered
heard : margins_of G (costs 4 65535 3 2) ≡ entry 2 1 3 14 ∷ []
unfolding slot_edges edges_from margins_of
heard = refl

-- no reading uses word 2 in slot 0
unused : margins_of G other ≡ []
unfolding slot_edges edges_from margins_of
unused = refl
