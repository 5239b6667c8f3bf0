-- Masks of heads: for each word and each symbol those that have it in a rule, and for each place those that have a part there. A head has
-- leaves only where it is in the mask of an edge's word, and seeds only where it is in the masks of both ends of a span.
-- Nobody need believe this page: what is passed over changes no selection (chart_candidates/proofs/PassedOver). Assumes nothing.
use Rattle.std.specs.Prelude.{◌≡◌, ◌⊎◌, List, ℕ, ◌+◌, ◌*◌, ◌≤◌, ◌<◌, ltb, get_or}
use Rattle.packing.specs.declared.Sym.{Sym}
use Rattle.bits.specs.Bits.{pick}
use Rattle.chart_classes.specs.Classes.{pair_base, word_base, edge_base, class_start, class_end}
use Rattle.chart_table.specs.declared.Cell.{Cell}
use Rattle.chart_table.specs.declared.Layout.{Layout}
use Rattle.chart_table.specs.Table.{last_place}
use Rattle.masks.specs.Digits.{digit}
use Rattle.chart_masks.specs.Masks.{ends_at, starts_at, firsts_at, seconds_at, left_at, right_at}
use Rattle.chart_heads.specs.declared.Column.{Column}

-- the place of a number's mask among those of its column
unfoldable pub capped : ℕ → ℕ → ℕ
capped limit x = pick (ltb x limit) x limit

-- the mask of a number that rule r has in a column
abbrev pub mask_of : List ℕ → Column → List ℕ → ℕ → ℕ
mask_of m column rules r = get_or m (column.at + capped column.limit (get_or rules (5 * r + column.field) 0)) 0

-- each of n heads is in the masks of the numbers that its rules have in a column
pub record Members (rules index : List ℕ) (column : Column) (n : ℕ) (m : List ℕ) : Type 0 where
  pub has : (a z : ℕ) → a < n → class_start index column.base a ≤ z → z < class_end index column.base a
      → digit (mask_of m column rules (get_or index z 0)) a ≡ 0 → ⊥

-- so it is of one head and its words
pub record Worded (rules index m : List ℕ) (a : ℕ) : Type 0 where
  pub has : (z : ℕ) → class_start index word_base a ≤ z → z < class_end index word_base a
      → digit (get_or m (2048 + capped 256 (get_or rules (5 * get_or index z 0 + 3) 0)) 0) a ≡ 0 → ⊥

-- what was in a mask still is, and the masks of places are the same
pub record Grown (m m' : List ℕ) : Type 0 where
  pub kept : (y j : ℕ) → digit (get_or m' y 0) j ≡ 0 → digit (get_or m y 0) j ≡ 0
  pub same : (y : ℕ) → y < 2048 → get_or m' y 0 ≡ get_or m y 0

-- one more head is in the masks, by the members of its class before y
pub record MembersMore (rules index : List ℕ) (column : Column) (a y : ℕ) (m m' : List ℕ) : Type 0 where
  pub grown : Grown m m'
  pub more : (z : ℕ) → class_start index column.base a ≤ z → z < y → digit (mask_of m' column rules (get_or index z 0)) a ≡ 0 → ⊥

-- the columns of words, of first parts and of second parts
abbrev pub word_column : Column
word_column = record { base = word_base; field = 3; at = 2048; limit = 256 }

abbrev pub first_column : Layout → Column
first_column d = record { base = pair_base; field = 3; at = 2336; limit = d.symbols }

abbrev pub second_column : Layout → Column
second_column d = record { base = pair_base; field = 4; at = 2400; limit = d.symbols }

-- the masks have the heads of all columns; and a head that is not in the mask of a place has no first part that starts there, and no
-- second part that ends there
pub record Ruled (rules index : List ℕ) (d : Layout) (m : List ℕ) : Type 0 where
  pub words : Members rules index word_column d.symbols m
  pub firsts : Members rules index (first_column d) d.symbols m
  pub seconds : Members rules index (second_column d) d.symbols m
  pub left : (b : Sym) (a i k : ℕ) → b.0 < d.symbols → i ≤ last_place → digit (get_or m (left_at i) 0) a ≡ 0
      → (digit (get_or m (firsts_at b.0) 0) a ≡ 0 → ⊥) → digit (get_or m (ends_at b i) 0) k ≡ 0
  pub right : (b : Sym) (a i k : ℕ) → b.0 < d.symbols → k ≤ last_place → digit (get_or m (right_at k) 0) a ≡ 0
      → (digit (get_or m (seconds_at b.0) 0) a ≡ 0 → ⊥) → digit (get_or m (starts_at b k) 0) i ≡ 0

-- head a has no parts that meet over a cell's span
pub record Unjoined (m : List ℕ) (d : Layout) (c : Cell) (a : ℕ) : Type 0 where
  pub parts : (digit (get_or m (left_at c.from) 0) a ≡ 0) ⊎ (digit (get_or m (right_at c.to) 0) a ≡ 0)
  pub firsts : digit (get_or m (firsts_at d.symbols) 0) a ≡ 0
  pub seconds : digit (get_or m (seconds_at d.symbols) 0) a ≡ 0

-- a mask of the heads that may have a tree over a cell's span, where another has those that may have leaves
pub record Live (m : List ℕ) (d : Layout) (c : Cell) (leafy r : ℕ) : Type 0 where
  pub unjoined : (a : ℕ) → digit r a ≡ 0 → Unjoined m d c a
  pub leafless : (a : ℕ) → digit r a ≡ 0 → digit leafy a ≡ 0

-- a mask has the heads that have the word of an edge, if that reaches k; and of each edge over a cell's span before y
abbrev pub EdgeHeads : (m edges : List ℕ) → ℕ → ℕ → ℕ → Type 0
EdgeHeads m edges e k r =
    (a : ℕ) → digit r a ≡ 0 → get_or edges (4 * e + 1) 0 ≡ k → digit (get_or m (2048 + capped 256 (get_or edges (4 * e + 2) 0)) 0) a ≡ 0

pub record HeadsBefore (m edges index : List ℕ) (start k y r : ℕ) : Type 0 where
  pub has : (z : ℕ) → start ≤ z → z < y → EdgeHeads m edges (get_or index z 0) k r

abbrev pub HeadsOver : (m edges index : List ℕ) → Cell → ℕ → Type 0
HeadsOver m edges index c r =
    HeadsBefore m edges index (class_start index edge_base c.from) c.to (class_end index edge_base c.from) r

-- no edge over a cell's span has the word of a rule of its head
abbrev pub word_of : List ℕ → ℕ → ℕ
word_of rules r = get_or rules (5 * r + 3) 0

abbrev pub NoLeaf : (rules edges index : List ℕ) → Cell → Type 0
NoLeaf rules edges index c =
    (y z : ℕ) → class_start index edge_base c.from ≤ y → y < class_end index edge_base c.from → get_or edges (4 * get_or index y 0 + 1) 0 ≡ c.to
    → class_start index word_base c.head.0 ≤ z → z < class_end index word_base c.head.0
    → word_of rules (get_or index z 0) ≡ get_or edges (4 * get_or index y 0 + 2) 0 → ⊥
