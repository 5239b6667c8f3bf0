-- What can be said in a grammar, and which of it comes first: document 01, "The services", and document 02, N7. Stands on packing's
-- Meaning and on derivation's Derivation and Order.
use Rattle.std.specs.Prelude.{◌≡◌, ◌⊎◌, List, [], ◌∷◌, map, length}
use Prim.Native.Nat.{ℕ, compare, Ordering}
use Rattle.packing.specs.Meaning.{Grammar, Utterance, candidate, word, slots}
use Rattle.derivation.specs.Derivation.{Tree, Derivation}
use Rattle.derivation.specs.Order.{◌▸◌}

-- the utterance that offers just one word in each slot, at no cost
unfoldable pub plain : List ℕ → Utterance
plain ws = map (λ w. candidate (word w) 0 ∷ []) ws

-- the grammar derives the word string ws
abbrev pub Says : Grammar → List ℕ → Type 0
Says g ws = (t : Tree) × Derivation g (slots (plain ws)) t

-- "word string of a wanted length that a grammar derives"
abbrev pub Phrase : Grammar → ℕ → List ℕ → Type 0
Phrase g n s = (length s ≡ n) × Says g s

-- "compared word number by word number from the left"; a string comes before those that go on where it ends
unfoldable pub word_order : List ℕ → List ℕ → Ordering
unfolding ◌▸◌
word_order [] [] = Ordering.eq
word_order [] (y ∷ t) = Ordering.lt
word_order (x ∷ s) [] = Ordering.gt
word_order (x ∷ s) (y ∷ t) = compare x y ▸ word_order s t

-- s comes before t
abbrev pub Precedes : List ℕ → List ℕ → Type 0
Precedes s t = word_order s t ≡ Ordering.lt

-- "the string that is least": s has the property P, and comes before every other string that has it
abbrev pub Least : (List ℕ → Type 0) → List ℕ → Type 0
Least P s = P s × ((t : List ℕ) → P t → (t ≡ s) ⊎ Precedes s t)
