-- Costs known within ranges: document 02, N11, over all choices of costs between low and high. Stands on Costs.
use Rattle.std.specs.Prelude.{◌≡◌, ◌↔◌, Bool, true, false, ◌&&◌, List, [], ◌∷◌, ℕ, ◌≤◌, ◌<◌, eqb, leb, ltb}
use Rattle.bits.specs.Bits.{pick}
use Rattle.packing.specs.Meaning.{not_heard, Grammar, Utterance, Candidate, candidate, edges, slots}
use Rattle.derivation.specs.Derivation.{Tree, Derivation, weight}
use Rattle.cost_changes.specs.Costs.{Uses, cost_at, First, FirstWeight}

-- a cost does not fall from c to d, and 65,535 stands in both or in neither: it is the greatest cost, so it stands in one only where c is
-- below it and d is not
abbrev pub cost_rises : ℕ → ℕ → Bool
cost_rises c d = leb c d && pick (ltb c not_heard) (ltb d not_heard) true

-- it is so of each word, and the words are the same
unfoldable pub slot_rises : List Candidate → List Candidate → Bool
slot_rises [] [] = true
slot_rises [] (b ∷ m) = false
slot_rises (a ∷ l) [] = false
slot_rises (candidate x c ∷ l) (candidate y d ∷ m) = eqb x.0 y.0 && cost_rises c d && slot_rises l m

-- and of each slot: not so where "the blocks differ elsewhere than in costs, a cost falls from low to high, or 65,535 stands in one only"
unfoldable pub rises : Utterance → Utterance → Bool
rises [] [] = true
rises [] (m ∷ v) = false
rises (l ∷ u) [] = false
rises (l ∷ u) (m ∷ v) = slot_rises l m && rises u v

-- c is a choice of costs between low and high
pub record Choice (low high c : Utterance) : Type 0 where
  pub above : rises low c ≡ true
  pub below : rises c high ≡ true

module _ (g : Grammar) (low high : Utterance) where
  -- w is the first weight under some choice
  abbrev pub Reached : ℕ → Type 0
  Reached w = (c : Utterance) × Choice low high c × FirstWeight g c w

  -- "the least and the greatest first weight over all choices between low and high, both of them reached"
  abbrev pub LeastFirst : ℕ → Type 0
  LeastFirst w = Reached w × ((v : ℕ) → Reached v → w ≤ v)

  abbrev pub GreatestFirst : ℕ → Type 0
  GreatestFirst w = Reached w × ((v : ℕ) → Reached v → v ≤ w)

  -- under some choice some derivation is strictly lighter than t
  pub record Outweighed (t : Tree) : Type 0 where
    pub costs : Utterance
    pub choice : Choice low high costs
    pub lighter : Tree
    pub derivation : Derivation g (slots costs) lighter
    pub lighter_is : weight g (edges costs) lighter < weight g (edges costs) t

-- "with its own words high and all others low"
pub record OwnHigh (t : Tree) (low high m : Utterance) : Type 0 where
  pub choice : Choice low high m
  pub own : (e : ℕ) → Uses t e → cost_at (edges m) e ≡ cost_at (edges high) e
  pub other : (e : ℕ) → ¬ Uses t e → cost_at (edges m) e ≡ cost_at (edges low) e

-- "it has least weight"
abbrev pub HasLeast : Grammar → Utterance → Tree → Type 0
HasLeast g u t = (s : Tree) → Derivation g (slots u) s → weight g (edges u) t ≤ weight g (edges u) s

-- t is "outweighed under no choice: that is so exactly if it has least weight with its own words high and all others low"
pub record Decided (g : Grammar) (low high : Utterance) (t : Tree) : Type 0 where
  pub own_high : Utterance
  pub own_high_is : OwnHigh t low high own_high
  pub exactly_if : ¬ Outweighed g low high t ↔ HasLeast g own_high t

-- what is answered: none; or the least and the greatest first weight, where the first reading for the low costs is outweighed under some
-- choice, or under none
pub data Answer : Type 0 where
  nothing : Answer
  outweighed : (least greatest : ℕ) → Answer
  stands : (least greatest : ℕ) → Answer

-- a is the answer
abbrev pub Answers : Grammar → Utterance → Utterance → Answer → Type 0
Answers g low high nothing = (t : Tree) → ¬ Derivation g (slots low) t
Answers g low high (outweighed least greatest) =
    LeastFirst g low high least × GreatestFirst g low high greatest
    × ((t : Tree) × First g low t × Outweighed g low high t × Decided g low high t)
Answers g low high (stands least greatest) =
    LeastFirst g low high least × GreatestFirst g low high greatest
    × ((t : Tree) × First g low t × ¬ Outweighed g low high t × Decided g low high t)
