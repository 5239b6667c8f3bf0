-- What outside weights are filled from, and the names for it: the start, the outside weights, the cells of the chart.
use mathlib.Core.Path.{◌≡◌}
use mathlib.Core.Option.{some}
use mathlib.Core.List.{List}
use Prim.Native.Nat.{ℕ, ◌≤◌, ◌<◌}
use native.Mathlib.Nat.{le_refl}
use lib.ListN.{length}
use Rattle.packing.specs.declared.Sym.{Sym}
use Rattle.packing.specs.Meaning.{symbol_of, Grammar, Edge}
use Rattle.packing.specs.Flat.{rule_at}
use Rattle.derivation.specs.Derivation.{At}
use Rattle.derivation.proofs.Ranges.{All, Light, Within}
use Rattle.derivation.proofs.Slots.{Short, CheapEdges}
use Rattle.chart_table.specs.declared.Layout.{Layout}
use Rattle.chart_table.specs.Table.{cell}
use Rattle.chart_theory.proofs.Table.Cells.{InChart, Planned}
use Rattle.cost_changes.specs.Outside.{Cells, inside, outside}
use Rattle.outside_theory.proofs.Decoded.{inner_in}

-- what the array is filled from: the table t of a layout d, whose first ranks are the inside weights
pub record Source (g : Grammar) (es : List Edge) (rules t : List ℕ) (d : Layout) : Type 0 where
  pub planned : Planned d
  pub few_rules : length g.rules ≤ 256
  pub few_symbols : d.symbols ≤ 32
  pub few_places : d.last ≤ 24
  pub some_place : 0 < d.last
  pub some_symbol : 0 < d.symbols
  pub symbols : d.symbols ≡ g.symbols
  pub within : All (Within g.symbols g.words) g.rules
  pub light : All Light g.rules
  pub short : Short es
  pub cheap : CheapEdges es
  pub rule_at_lem : (r : ℕ) → r < length g.rules → At g.rules r (rule_at rules r)
  pub inner : (A : Sym) (i k : ℕ) → InChart d (cell A i k) → inner_in d t A i k ≡ inside g es A i k
  pub whole : ℕ
  pub whole_is : inside g es (symbol_of 0) 0 d.last ≡ some whole

abbrev pub S : Sym
S = symbol_of 0

abbrev pub In : Layout → Sym → ℕ → ℕ → Type 0
In d A i k = InChart d (cell A i k)

module _ {g : Grammar} {es : List Edge} {rules t : List ℕ} {d : Layout} (s : Source g es rules t d) where
  abbrev pub outer : Cells
  outer = outside g es S d.last

  pub root_in : In d S 0 d.last
  root_in = record { symbol = s.some_symbol; order = s.some_place; within = le_refl d.last }
