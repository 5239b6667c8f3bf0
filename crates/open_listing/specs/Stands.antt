-- What stands in the work table of an open listing: document 02, N2, "A rank of a span and head is found once its tree stands in the table, and what a call
-- hands out is spelled from found ranks alone". Stands on packing's Meaning and derivation's Derivation, Order and Rank. No other page to believe knows
-- where a table keeps its numbers. A head A, a span from place i to place k and a rank x, from 0, below 256, have an entry of four numbers.
use Rattle.std.specs.Prelude.{◌≡◌, List, ℕ, zero, suc, ◌+◌, ◌-◌, ◌*◌, ◌/◌, ◌%◌, ◌≤◌, ◌<◌, ltb, eqb, get_or}
use Rattle.std.proofs.Math.Option.{Option, none, some}
use Rattle.std.proofs.Math.ListN.{get_elem?}
use Rattle.bits.specs.Width.{u32_values}
use Rattle.bits.specs.Bits.{pick}
use Rattle.packing.specs.Meaning.{symbol_of, Grammar, Heard, slots, graph, last_place, heard_edges}
use Rattle.packing.specs.declared.Sym.{Sym}
use Rattle.packing.specs.declared.Rule as R
use Rattle.packing.specs.declared.Rule.TheVariants.{Pair, Word}
use Rattle.derivation.specs.Derivation.{At, Tree, leaf, node, Derives, weight}
use Rattle.derivation.specs.Order.{cost_sum, Before}
use Rattle.derivation.specs.Rank.{Number}

-- how a tree was made, with its weight and the sum of its words' costs: by a word rule and an edge, or by a pair rule, the place where both parts meet and
-- the ranks of the parts in their own spans
pub data TableEntry : Type 0 where
  by_word : (rule edge weight costs : ℕ) → TableEntry
  by_pair : (rule split leftRank rightRank weight costs : ℕ) → TableEntry

abbrev pub weight_in : TableEntry → ℕ
weight_in (by_word r e w s) = w
weight_in (by_pair r j p q w s) = w

abbrev pub costs_in : TableEntry → ℕ
costs_in (by_word r e w s) = s
costs_in (by_pair r j p q w s) = s

-- which of both, the rule says that the grammar has by that number
abbrev pub made_by : Option R.Rule → (rule split left right weight costs : ℕ) → TableEntry
made_by (some (Pair A B C v)) r j p q w s = by_pair r j p q w s
made_by (some (Word A x v)) r j p q w s = by_word r p w s
made_by none r j p q w s = by_word r p w s

-- where the four numbers stand: first those of rank 0, span by span (by last place, then by first) and in a span head by head; then likewise the 255 further
-- ranks of each
unfoldable pub first_number : Grammar → Heard → Sym → (i k x : ℕ) → ℕ
first_number g h A i k x =
    let cell = (k * (k - 1) / 2 + i) * g.symbols + A.0 in
    let cells = g.symbols * (last_place h * (last_place h + 1) / 2) in
    pick (eqb x 0) (cell * 4) ((cells + cell * 255 + (x - 1)) * 4)

-- the numbers of the first ranks stand together, at the front
abbrev pub front : Grammar → Heard → ℕ
front g h = 4 * (g.symbols * (last_place h * (last_place h + 1) / 2))

module _ (g : Grammar) (h : Heard) (table : List ℕ) (A : Sym) (i k x : ℕ) where
  -- one of the four, past the table's end 0
  abbrev pub number : ℕ → ℕ
  number y = get_or table (first_number g h A i k x + y) 0

  -- the first, and of the second the lower 11 bits: 0 where no tree stands, else 1 + weight × 1,572,864 + costs
  unfoldable pub price_number : ℕ
  price_number = pick (ltb x 256) (number 1 % 2048 * u32_values + get_or table (first_number g h A i k x) 0) 0

  -- the third: the rule, then 5 bits of split, 8 of the left part's rank or the edge, and 8 of the right part's rank
  unfoldable pub entry : Option TableEntry
  entry =
      let w = (price_number - 1) / 1572864 in
      let s = (price_number - 1) % 1572864 in
      let rule = number 2 / 2097152 in
      pick (eqb price_number 0) none
      (some (made_by (get_elem? g.rules rule) rule (number 2 / 65536 % 32) (number 2 / 256 % 256) (number 2 % 256) w s))

  -- a tree stands there
  abbrev pub Found : Type 0
  Found = (e : TableEntry) × (entry ≡ some e)

-- A is a head of the grammar, and from i to k there is a span
pub record Over (g : Grammar) (h : Heard) (A : Sym) (i k : ℕ) : Type 0 where
  pub symbol : A.0 < g.symbols
  pub order : i < k
  pub within : k ≤ last_place h

-- how many ranks are found: of a head over a span, and over all spans and heads
unfoldable pub sum_below : ℕ → (ℕ → ℕ) → ℕ
sum_below zero f = 0
sum_below (suc n) f = sum_below n f + f n

abbrev pub found_once : Option TableEntry → ℕ
found_once none = 0
found_once (some e) = 1

unfoldable pub found_over : Grammar → Heard → List ℕ → Sym → (i k : ℕ) → ℕ
found_over g h table A i k = sum_below 256 (λ x. found_once (entry g h table A i k x))

unfoldable pub found_ranks : Grammar → Heard → List ℕ → ℕ
found_ranks g h table = sum_below (suc (last_place h)) (λ k. sum_below k (λ i. sum_below g.symbols (λ a. found_over g h table (symbol_of a) i k)))

-- of a graph a reading names its edges; of slots it does not
abbrev pub SameEdge : Heard → ℕ → ℕ → Type 0
SameEdge (slots u) f e = Unit {0}
SameEdge (graph w) f e = f ≡ e

-- The tree that a rank spells, from found ranks alone. A leaf whose edge goes over another span is no tree of that span, so
-- that what is spelled from it is no derivation
pub data Spelled (g : Grammar) (h : Heard) (table : List ℕ) : Tree → Sym → ℕ → ℕ → ℕ → Type 0 where
  leaf_spelled : {A : Sym} {i k x r e f w s : ℕ} → entry g h table A i k x ≡ some (by_word r f w s) → SameEdge h f e
      → Spelled g h table (leaf r e) A i k x
  node_spelled : {A B C : Sym} {i k x r j p q w s v : ℕ} {y z : Tree} → entry g h table A i k x ≡ some (by_pair r j p q w s)
      → At g.rules r (Pair A B C v) → Spelled g h table y B i j p → Spelled g h table z C j k q → Spelled g h table (node r j y z) A i k x

module _ (g : Grammar) (h : Heard) (table : List ℕ) where
  -- rank x of the whole spells the tree z, and its entry has the weight of z
  pub record SpelledReading (x : ℕ) (z : Tree) : Type 0 where
    pub stands : TableEntry
    pub found : entry g h table (symbol_of 0) 0 (last_place h) x ≡ some stands
    pub tree : Spelled g h table z (symbol_of 0) 0 (last_place h) x
    pub weighs : weight_in stands ≡ weight g (heard_edges h) z

  -- entry e at rank x of head A over a span is right: a tree is spelled, with e's weight and costs, before which exactly x trees of that head and span come
  pub record Right (A : Sym) (i k x : ℕ) (e : TableEntry) : Type 0 where
    pub tree : Tree
    pub derives : Derives g (heard_edges h) A i k tree
    pub before : Number (λ s. Derives g (heard_edges h) A i k s × Before g (heard_edges h) s tree) x
    pub spelled : Spelled g h table tree A i k x
    pub weighs : weight_in e ≡ weight g (heard_edges h) tree
    pub costs : costs_in e ≡ cost_sum (heard_edges h) tree

  -- a table as calls leave it: what is found is right, found ranks have no gaps, and where nothing is found nothing is kept
  pub record Standing : Type 0 where
    pub right : (A : Sym) (i k x : ℕ) → Over g h A i k → (e : TableEntry) → entry g h table A i k x ≡ some e → Right A i k x e
    pub no_gaps : (A : Sym) (i k x : ℕ) → Over g h A i k → Found g h table A i k (suc x) → Found g h table A i k x
    pub nothing : (A : Sym) (i k x : ℕ) → Over g h A i k → x < 256 → entry g h table A i k x ≡ none → (y : ℕ) → y < 4 → number g h table A i k x y ≡ 0
