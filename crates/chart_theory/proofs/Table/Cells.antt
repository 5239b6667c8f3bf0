-- Cells of a layout, and the words of derivation over a cell: there a head and a span are three arguments, and here, and in all
-- that follows, a cell is one.
use mathlib.Core.Path.{◌≡◌}
use mathlib.Core.List.{List}
use Prim.Native.Nat.{ℕ, ◌+◌, ◌-◌, ◌*◌, ◌/◌, ◌≤◌, ◌<◌}
use lib.ListN.{length}
use Rattle.packing.specs.Meaning.{Grammar, Edge}
use Rattle.derivation.specs.Derivation.{Tree, Derives}
use Rattle.derivation.specs.List.{ranked}
use Rattle.derivation.proofs.Rows.{Row, RowOf, RowAt, row_below, row_one}
use Rattle.derivation.proofs.Frontier.{Frontier, Beyond}
use Rattle.chart_table.specs.declared.Cell.{Cell}
use Rattle.chart_table.specs.declared.Layout.{Layout}

-- a cell of the layout
pub record InChart (d : Layout) (c : Cell) : Type 0 where
  pub symbol : c.head.0 < d.symbols
  pub order : c.from < c.to
  pub within : c.to ≤ d.last

-- the layout has a number for each of them
abbrev pub Planned : Layout → Type 0
Planned d = d.cells ≡ d.symbols * (d.last * (d.last + 1) / 2)

-- how many places a cell spans
abbrev pub span : Cell → ℕ
span c = c.to - c.from

module _ (g : Grammar) (es : List Edge) (c : Cell) where
  -- the trees of a cell, in order
  abbrev pub ranked_in : List Tree
  ranked_in = ranked g es c.head c.from c.to

  abbrev pub DerivesIn : Tree → Type 0
  DerivesIn = Derives g es c.head c.from c.to

  -- a tree of the cell has a row, and a rank of it has one
  abbrev pub RowOfIn : Row → Tree → Type 0
  RowOfIn = RowOf g es c.head c.from c.to

  abbrev pub RowAtIn : ℕ → Row → Type 0
  RowAtIn = RowAt g es c.head c.from c.to

  pub row_unique : (x : ℕ) {v v' : Row} → RowAtIn x v → RowAtIn x v' → v ≡ v'
  row_unique = row_one g es c.head c.from c.to

  pub rank_below : (x : ℕ) {v : Row} → RowAtIn x v → x < length ranked_in
  rank_below = row_below g es c.head c.from c.to

  -- the frontier of N ranks where n are found, and what is above the last found
  abbrev pub FrontierIn : (N n : ℕ) → Row → Type 0
  FrontierIn = Frontier g es c.head c.from c.to

  abbrev pub BeyondIn : ℕ → Row → Type 0
  BeyondIn = Beyond g es c.head c.from c.to
