-- Masks: for each head and each place that a span starts at, the places where such a span with a first rank ends, for each head
-- and each place that it ends at, the places where it starts; for each word and each symbol the heads that have it in a rule; and for
-- each place the heads that have a part there. A pair rule has a seed only where two masks of places meet; which heads are looked at
-- is on the page Heads of chart_heads.
-- Nobody need believe this page: what is passed over changes no selection (chart_candidates/proofs/PassedOver). Assumes nothing.
use Rattle.std.specs.Prelude.{◌≡◌, List, ℕ, ◌+◌, ◌*◌, ◌≤◌, ◌<◌, length, get_or}
use Rattle.packing.specs.declared.Sym.{Sym}
use Rattle.masks.specs.Digits.{digit, Disjoint}
use Rattle.chart_table.specs.declared.Cell.{Cell}
use Rattle.chart_table.specs.declared.Layout.{Layout}
use Rattle.chart_table.specs.Table.{last_place, cell, cell_number, price_at}

-- where the masks stand, and how many there are
abbrev pub ends_at : Sym → ℕ → ℕ
ends_at b i = i * 32 + b.0

abbrev pub starts_at : Sym → ℕ → ℕ
starts_at b k = 1024 + k * 32 + b.0

abbrev pub firsts_at : ℕ → ℕ
firsts_at b = 2336 + b

abbrev pub seconds_at : ℕ → ℕ
seconds_at b = 2400 + b

abbrev pub left_at : ℕ → ℕ
left_at i = 2464 + i

abbrev pub right_at : ℕ → ℕ
right_at k = 2496 + k

abbrev pub mask_numbers : ℕ
mask_numbers = 2528

-- a cell, marked: its places are in the masks of its head, and the heads that have its head as a part in those of its places
pub record Marked (m : List ℕ) (c : Cell) (m' : List ℕ) : Type 0 where
  pub size : length m' ≡ length m
  pub kept : (y j : ℕ) → digit (get_or m' y 0) j ≡ 0 → digit (get_or m y 0) j ≡ 0
  pub end : digit (get_or m' (ends_at c.head c.from) 0) c.to ≡ 0 → ⊥
  pub start : digit (get_or m' (starts_at c.head c.to) 0) c.from ≡ 0 → ⊥
  pub left : (a : ℕ) → digit (get_or m' (left_at c.from) 0) a ≡ 0 → digit (get_or m (firsts_at c.head.0) 0) a ≡ 0
  pub right : (a : ℕ) → digit (get_or m' (right_at c.to) 0) a ≡ 0 → digit (get_or m (seconds_at c.head.0) 0) a ≡ 0
  pub other : (y : ℕ) → (y ≡ ends_at c.head c.from → ⊥) → (y ≡ starts_at c.head c.to → ⊥) → (y ≡ left_at c.from → ⊥)
      → (y ≡ right_at c.to → ⊥) → get_or m' y 0 ≡ get_or m y 0

-- what is in no mask has no first rank
pub record Covers (m t : List ℕ) (d : Layout) : Type 0 where
  pub size : mask_numbers ≤ length m
  pub ends : (b : Sym) (i k : ℕ) → b.0 < d.symbols → i < k → k ≤ last_place → digit (get_or m (ends_at b i) 0) k ≡ 0
      → price_at t d (cell_number d (cell b i k)) 0 ≡ 0
  pub starts : (b : Sym) (i k : ℕ) → b.0 < d.symbols → i < k → k ≤ last_place → digit (get_or m (starts_at b k) 0) i ≡ 0
      → price_at t d (cell_number d (cell b i k)) 0 ≡ 0

-- so it is if there are masks
abbrev pub Covered : List ℕ → List ℕ → Layout → Type 0
Covered m t d = mask_numbers ≤ length m → Covers m t d

-- the masks of two heads do not meet over a cell's span
pub record Apart (m : List ℕ) (d : Layout) (b c : Sym) (s : Cell) : Type 0 where
  pub size : mask_numbers ≤ length m
  pub left : b.0 < d.symbols
  pub right : c.0 < d.symbols
  pub disjoint : Disjoint (get_or m (ends_at b s.from) 0) (get_or m (starts_at c s.to) 0)
