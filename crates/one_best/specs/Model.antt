-- A pass for one reading: its bounds, its table and its first weight. Nobody need believe this page: proofs/Found joins it to the first derivation.
use Rattle.std.specs.Prelude.{List, ℕ, ◌≤◌, ◌<◌}
use Rattle.chart_table.specs.Table.{Sized}
use Rattle.chart.specs.Chart.{enumerate, root_weight}
use Rattle.one_best.specs.declared.Pass.{Pass}

-- what a pass is over, within the bounds of the chart
pub record Passable (p : Pass) : Type 0 where
  pub sized : Sized p.table
  pub some_place : 0 < p.table.last
  pub some_rank : 0 < p.table.ranks
  pub rules : p.rules ≤ 256
  pub edges : p.edges ≤ 256

-- the table of a pass and its first weight
abbrev pub table_by : List ℕ → List ℕ → Pass → ℕ → List ℕ
table_by rules array p size = enumerate rules p.rules array p.edges p.table size

abbrev pub weight_by : List ℕ → List ℕ → Pass → ℕ → ℕ
weight_by rules array p size = root_weight (table_by rules array p size) p.table 0
