-- The work table's layout.
-- Nobody need believe this page: the theorems of chart_theory join the table to the derivations. Assumes nothing.
use Rattle.std.specs.Prelude.{ℕ, ◌+◌, ◌*◌, ◌/◌}
use Rattle.chart_table.specs.declared.Layout.{Layout}

-- the layout of a table for N ranks of each cell, over S symbols, up to place n
unfoldable pub lay_out : ℕ → ℕ → ℕ → Layout
lay_out S n N = record { symbols = S; last = n; ranks = N; cells = S * (n * (n + 1) / 2) }
