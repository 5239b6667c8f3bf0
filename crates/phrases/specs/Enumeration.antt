-- The phrases of a length as functions that can be run: all strings of that length, those of them that the grammar derives, the first of
-- those, and the first above a string (document 02, N7 and N9). Nobody need believe this page to believe what Phrases says:
-- proofs/Theorems has that `phrases g n` holds the phrases of length n, all of them, ascending and each once, that `firstPhrase g n` is the
-- least, and that `nextPhrase g n s` is the least above s. Stands on Phrases and on derivation's List.
use Rattle.std.specs.Prelude.{Bool, true, false, length}
use Rattle.std.proofs.Math.Option.{Option}
use mathlib.Core.List.{List, [], ◌∷◌, ◌++◌, map, head?}
use Prim.Native.Nat.{ℕ, zero, suc, Ordering}
use Rattle.packing.specs.Meaning.{Grammar, symbol_of, slot_edges, edges_from, edges}
use Rattle.derivation.specs.Derivation.{Tree}
use Rattle.derivation.specs.List.{each_below, keep_if, trees}
use Rattle.phrases.specs.Phrases.{plain, word_order}

-- whether there is a tree in the list, and so whether the grammar derives the word string ws
abbrev pub any_tree : List Tree → Bool
any_tree [] = false
any_tree (t ∷ l) = true

unfoldable pub says : Grammar → List ℕ → Bool
unfolding plain edges_from slot_edges trees
says g ws = any_tree (trees g (edges (plain ws)) (symbol_of 0) 0 (length (plain ws)))

-- all strings of n words below W, ascending
unfoldable pub strings : ℕ → ℕ → List (List ℕ)
unfolding each_below
strings W zero = [] ∷ []
strings W (suc n) = each_below (λ x. map (λ s. x ∷ s) (strings W n)) W

-- those that pass a test, in their order
unfoldable pub passing : (List ℕ → Bool) → List (List ℕ) → List (List ℕ)
unfolding keep_if
passing f [] = []
passing f (s ∷ l) = keep_if (f s) (s ∷ []) ++ passing f l

-- the strings of n words that the grammar derives, and the first of them
unfoldable pub phrases : Grammar → ℕ → List (List ℕ)
unfolding passing strings says
phrases g n = passing (says g) (strings g.words n)

unfoldable pub first_phrase : Grammar → ℕ → Option (List ℕ)
unfolding phrases
first_phrase g n = head? (phrases g n)

-- whether the first of two compared comes before the other; and the first string that comes after s
abbrev pub is_less : Ordering → Bool
is_less Ordering.lt = true
is_less Ordering.eq = false
is_less Ordering.gt = false

unfoldable pub next_phrase : Grammar → ℕ → List ℕ → Option (List ℕ)
unfolding passing phrases
next_phrase g n s = head? (passing (λ t. is_less (word_order s t)) (phrases g n))
