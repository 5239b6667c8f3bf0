-- Which word to listen to again: document 02, N12. Stands on Costs.
use Rattle.std.specs.Prelude.{◌≡◌, ◌↔◌, List, [], ◌∷◌, ◌++◌, eqb}
use Prim.Native.Nat.{ℕ, zero, suc, ◌-◌, ◌≤◌, ◌<◌, compare, Ordering}
use Rattle.bits.specs.Bits.{pick}
use Rattle.packing.specs.declared.Word as W
use Rattle.packing.specs.Meaning.{not_heard, word, Grammar, Utterance, Candidate, candidate, edge, edges, slots}
use Rattle.derivation.specs.Derivation.{At, Tree, Derivation, weight}
use Rattle.derivation.specs.Order.{◌▸◌}
use Rattle.derivation.specs.Rank.{◌∈◌}
use Rattle.cost_changes.specs.Costs.{Uses, First, FirstWeight}

-- "its cost alone": the cost of word x lowered by d in a slot, and in slot s of an utterance
unfoldable pub lower_in : ℕ → W.Word → List Candidate → List Candidate
lower_in d x [] = []
lower_in d x (candidate y c ∷ slot) = candidate y (pick (eqb y.0 x.0) (c - d) c) ∷ lower_in d x slot

unfoldable pub lower_word : (d s : ℕ) → W.Word → Utterance → Utterance
unfolding lower_in
lower_word d s x [] = []
lower_word d zero x (slot ∷ u) = lower_in d x slot ∷ u
lower_word d (suc s) x (slot ∷ u) = slot ∷ lower_word d s x u

-- t uses word x in slot s
abbrev pub UsesWord : Utterance → Tree → ℕ → W.Word → Type 0
UsesWord u t s x = (e : ℕ) × (c : ℕ) × Uses t e × At (edges u) e (edge s (suc s) x c)

module _ (g : Grammar) (u : Utterance) (s : ℕ) (x : W.Word) where
  -- "strictly lighter than the first": when the cost of word x in slot s is lowered by d and the listing run afresh, its first reading is
  -- lighter than the first is now
  pub record Overtaken (d : ℕ) : Type 0 where
    pub today : ℕ
    pub afresh : ℕ
    pub today_is : FirstWeight g u today
    pub afresh_is : FirstWeight g (lower_word d s x u) afresh
    pub lighter : afresh < today

  -- "some other reading": with the cost lowered by d, a reading other than the one that is first now weighs less than that one
  abbrev pub OtherLighter : ℕ → Type 0
  OtherLighter d = (first : Tree) → First g u first
      → (t : Tree) × ¬ (t ≡ first) × Derivation g (slots (lower_word d s x u)) t
      × (weight g (edges (lower_word d s x u)) t < weight g (edges (lower_word d s x u)) first)

  -- what an entry says: its amount, and its weight
  pub record Margin (amount present : ℕ) : Type 0 where
    -- "For each slot's offered word"
    pub slot : List Candidate
    pub cost : ℕ
    pub there : At u s slot
    pub offers : candidate x cost ∈ slot
    pub heard : cost < not_heard
    -- "that the first reading does not use there"
    pub unused : (t : Tree) → First g u t → ¬ UsesWord u t s x
    -- "the least whole amount by which its cost alone must fall": a cost cannot fall below 0, and no smaller fall brings one
    pub falls : 1 ≤ amount
    pub can : amount ≤ cost
    pub overtaken : Overtaken amount
    pub none_less : (d : ℕ) → d < amount → ¬ Overtaken d
    -- "for some other reading to be strictly lighter than the first": of any fall it is one thing
    pub other : (d : ℕ) → Overtaken d ↔ OtherLighter d
    -- "each with the lighter reading's present weight"
    pub lighter : Tree
    pub lighter_first : First g (lower_word amount s x u) lighter
    pub present_is : weight g (edges u) lighter ≡ present

-- "An entry is four 32-bit numbers: amount, slot, word, weight."
pub data MarginEntry : Type 0 where
  entry : (amount slot word weight : ℕ) → MarginEntry

unfoldable pub entry_numbers : MarginEntry → List ℕ
entry_numbers (entry d s x v) = d ∷ s ∷ x ∷ v ∷ []

unfoldable pub list_numbers : List MarginEntry → List ℕ
unfolding entry_numbers
list_numbers [] = []
list_numbers (a ∷ l) = entry_numbers a ++ list_numbers l

-- "List by amount, then slot, then word"
unfoldable pub entry_order : MarginEntry → MarginEntry → Ordering
unfolding ◌▸◌
entry_order (entry a s x w) (entry b t y v) = compare a b ▸ compare s t ▸ compare x y

abbrev pub Ascends : List MarginEntry → Type 0
Ascends [] = Unit {0}
Ascends (a ∷ l) = ((b : MarginEntry) → b ∈ l → entry_order a b ≡ Ordering.lt) × Ascends l

-- l is the list: each entry that there is, in this order, and no other. "Leave out a word whose cost cannot fall so far, or that no reading
-- uses", for there is no entry; "An utterance without readings gives an empty list", for there is none at all
pub record Margins (g : Grammar) (u : Utterance) (l : List MarginEntry) : Type 0 where
  pub ascends : Ascends l
  pub those : (d s x v : ℕ) → entry d s x v ∈ l ↔ Margin g u s (word x) d v
