-- The phrases of a length, and the first of them, are what specs/Phrases says: an accepted grammar derives only words below W, so that
-- the enumeration misses none. Each theorem renders a sentence.
use mathlib.Core.Path.{◌≡◌}
use mathlib.Core.Logic.{◌↔◌}
use mathlib.Core.Option.{none}
use mathlib.Core.List.{List, [], ◌∷◌, ◌++◌}
use Prim.Native.Nat.{ℕ, suc}
use lib.ListN.{get_elem?}
use Rattle.packing.specs.Meaning.{Grammar}
use Rattle.packing.specs.Valid.{ValidGrammar}
use Rattle.packing.specs.declared.Sym.{Sym}
use Rattle.derivation.specs.Derivation.{At}
use Rattle.derivation.specs.Rank.{◌∈◌, Distinct}
use Rattle.derivation.proofs.Sorted.{Ascending, ascending_distinct}
use Rattle.derivation.proofs.Ranges.{Within, all_at, valid_within}
use Rattle.phrases.specs.Phrases.{Phrase, word_order, Precedes}
use Rattle.phrases.specs.Enumeration.{says, strings, passing, phrases, first_phrase, is_less, next_phrase}
use Rattle.phrases.proofs.Yields.{Yields, one, two, says_yields}
use Rattle.phrases.proofs.Order.{order_lawful}
use Rattle.phrases.proofs.Least.{LeastOrNone, least_same, least_first}
use Rattle.phrases.proofs.Enumeration.{
  passing_mem,
  passing_ascending,
  Below,
  strings_mem,
  strings_ascending,
  says_true,
  less_precedes,
  precedes_less,
  head_at,
  above_at,
  passing_none,
}

pub below_append : (W : ℕ) (s t : List ℕ) → Below W s → Below W t → Below W (s ++ t)
below_append W [] t a b = b
below_append W (x ∷ s) t (h, a) b = (h, below_append W s t a b)

pub yields_below : (g : Grammar) → ValidGrammar g → {A : Sym} {ws : List ℕ} → Yields g A ws → Below g.words ws
yields_below g v (one r w h) = ((all_at (Within g.symbols g.words) g.rules r (valid_within g v) h).1, tt)
yields_below g v (two {us = us} {vs = vs} r w h l m) = below_append g.words us vs (yields_below g v l) (yields_below g v m)

module _ (g : Grammar) (n : ℕ) where
  -- "every derivable word string"
  pub phrases_exactly : ValidGrammar g → (s : List ℕ) → s ∈ phrases g n ↔ Phrase g n s
  unfolding phrases
  phrases_exactly v s =
      let k = passing_mem (says g) (strings g.words n) s in
      let a = strings_mem g.words n s in
      let t = says_true g s in (
        (λ m. ((a.0 (k.0 m).0).0, t.0 (k.0 m).1)),
        (λ m. k.1 (a.1 (m.0, yields_below g v (says_yields g s m.1)), t.1 m.1)),
      )

  -- "in ascending order of word numbers"
  pub phrases_ascending : Ascending word_order (phrases g n)
  unfolding phrases
  phrases_ascending = passing_ascending (says g) (strings g.words n) (strings_ascending g.words n)

  -- "each one time however many derivations it has"
  pub phrases_once : Distinct (phrases g n)
  phrases_once = ascending_distinct order_lawful (phrases g n) phrases_ascending

  -- "the string that is least when compared word number by word number from the left"
  pub first_phrase_least : ValidGrammar g → LeastOrNone (Phrase g n) (first_phrase g n)
  unfolding first_phrase
  first_phrase_least v =
      least_same (λ s m. (phrases_exactly v s).0 m) (λ s p. (phrases_exactly v s).1 p) (least_first (phrases g n) phrases_ascending)

  -- "the least derivable one above it"
  pub next_phrase_least : ValidGrammar g → (s : List ℕ) → LeastOrNone (λ t. Phrase g n t × Precedes s t) (next_phrase g n s)
  unfolding next_phrase
  next_phrase_least v s =
      let k = passing_mem (λ t. is_less (word_order s t)) (phrases g n) in
      least_same
      (λ t m. ((phrases_exactly v t).0 ((k t).0 m).0, less_precedes s t ((k t).0 m).1))
      (λ t p. (k t).1 ((phrases_exactly v t).1 p.0, precedes_less s t p.1))
      (least_first (passing (λ t. is_less (word_order s t)) (phrases g n)) (passing_ascending (λ t. is_less (word_order s t)) (phrases g n) phrases_ascending))

  -- "hand out every derivable word string .. one string a call": the first is phrase 0, above phrase k comes phrase k + 1, and where there is
  -- no phrase there is none above any string
  pub first_at : first_phrase g n ≡ get_elem? (phrases g n) 0
  unfolding first_phrase
  first_at = head_at (phrases g n)

  pub next_at : (k : ℕ) (s : List ℕ) → At (phrases g n) k s → next_phrase g n s ≡ get_elem? (phrases g n) (suc k)
  unfolding next_phrase
  next_at k s e = above_at (phrases g n) k s phrases_ascending e

  pub next_none : (s : List ℕ) → get_elem? (phrases g n) 0 ≡ none → next_phrase g n s ≡ none
  unfolding next_phrase
  next_none s e = passing_none (λ t. is_less (word_order s t)) (phrases g n) e
