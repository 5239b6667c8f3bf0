-- Masks of the cells of a table that hold a tree, in the places where chart_masks has them. Nobody need believe this page: what is passed over
-- by them changes nothing (proofs/Marking).
use Rattle.std.specs.Prelude.{◌≡◌, List, ℕ, ◌≤◌, ◌<◌, length, get_or}
use Rattle.masks.specs.Digits.{digit}
use Rattle.chart_masks.specs.Masks.{ends_at, starts_at}
use Rattle.chart_table.specs.declared.Cell.{Cell}
use Rattle.chart_table.specs.declared.Layout.{Layout}
use Rattle.chart_table.specs.Table.{cell_number, price_at}

-- a cell that holds a tree has its places in the masks of its head
pub record InMasks (t : List ℕ) (d : Layout) (m : List ℕ) (c : Cell) : Type 0 where
  pub ends : digit (get_or m (ends_at c.head c.from) 0) c.to ≡ 0 → price_at t d (cell_number d c) 0 ≡ 0
  pub starts : digit (get_or m (starts_at c.head c.to) 0) c.from ≡ 0 → price_at t d (cell_number d c) 0 ≡ 0

-- the cells with a property are marked, and what was in a mask still is
pub record MarkedAll (t : List ℕ) (d : Layout) (P : Cell → Type 0) (m m' : List ℕ) : Type 0 where
  pub size : length m' ≡ length m
  pub kept : (y j : ℕ) → digit (get_or m' y 0) j ≡ 0 → digit (get_or m y 0) j ≡ 0
  pub all : (c : Cell) → P c → InMasks t d m' c

-- one cell; those of the first heads over a span; those of all heads that end at a place and start before another; and those that end up to a place
abbrev pub JustThis : Cell → Cell → Type 0
JustThis a c = c ≡ a

abbrev pub OfSpan : ℕ → ℕ → ℕ → Cell → Type 0
OfSpan i k a c = (c.head.0 < a) × (c.from ≡ i) × (c.to ≡ k)

abbrev pub EndingAt : ℕ → ℕ → ℕ → Cell → Type 0
EndingAt S k i c = (c.head.0 < S) × (c.from < i) × (c.to ≡ k)

abbrev pub UpTo : ℕ → ℕ → Cell → Type 0
UpTo S k c = (c.head.0 < S) × (c.from < c.to) × (c.to ≤ k)

-- all cells of a layout are marked
pub record Found (t : List ℕ) (d : Layout) (m : List ℕ) : Type 0 where
  pub all : (c : Cell) → UpTo d.symbols d.last c → InMasks t d m c
