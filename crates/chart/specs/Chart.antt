-- The chart as its callers see it: laid out, enumerated, traced back, cleared.
-- Nobody need believe this page: the theorems of chart_theory join it to the derivations. Assumes nothing.
use Rattle.std.specs.Prelude.{Bool, false, not, List, ℕ, ◌-◌, ◌/◌, eqb, replicate}
use Rattle.std.proofs.Math.Option.{Option, none, some}
use Rattle.chart_keys.specs.Keys.{weight_unit}
use Rattle.chart_table.specs.declared.Layout.{Layout}
use Rattle.chart_table.specs.Table.{root, cell_number, price_at, first_missing}
unfoldable pub use Rattle.chart_layout.specs.Layout.{lay_out}
use Rattle.chart_classes.specs.Classes.{index_numbers}
use Rattle.chart_index.specs.Build.{make_index}
use Rattle.chart_search.specs.Search.{search}
use Rattle.chart_trace.specs.Trace.{trace_back}
use Rattle.chart_trace.specs.Checked.{spelled_weight}
use Rattle.chart_trace.specs.declared.checked.Scope.{Scope}

-- the table of a size that the search makes of zeros, with an index of the first R rules and the first E edges
unfoldable pub enumerate : List ℕ → ℕ → List ℕ → ℕ → Layout → ℕ → List ℕ
enumerate rules R edges E d size =
    search rules edges (make_index rules R d.symbols edges E d.last (replicate index_numbers 0)) d (replicate size 0)

-- how many ranks of the root a table has, and of one of them the weight, by its price plus 1, and the trace
unfoldable pub roots_found : List ℕ → Layout → ℕ
roots_found t d = first_missing t d (cell_number d (root d))

unfoldable pub root_weight : List ℕ → Layout → ℕ → ℕ
root_weight t d rank = (price_at t d (cell_number d (root d)) rank - 1) / weight_unit

unfoldable pub root_trace : List ℕ → List ℕ → Layout → ℕ → List ℕ
root_trace t rules d rank = trace_back t rules d d.last (root d) rank

-- whether that rank is found
unfoldable pub root_found : List ℕ → Layout → ℕ → Bool
root_found t d rank = not (eqb (price_at t d (cell_number d (root d)) rank) 0)

-- whether it spells a tree, and one of the weight that its price says
abbrev pub weighs : Option ℕ → ℕ → Bool
weighs none w = false
weighs (some v) w = eqb v w

unfoldable pub root_spelled : (t rules edges : List ℕ) → Scope → Layout → ℕ → Bool
root_spelled t rules edges k d rank = weighs (spelled_weight t rules edges k d d.last (root d) rank) (root_weight t d rank)
