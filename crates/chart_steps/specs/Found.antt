-- The ranks that are found, counted entry by entry: a tree stands in an entry unless its price plus 1 is 0 (chart_table/specs/Table).
-- Nobody need believe this page: open_listing joins it to what its page Stands says of spans and heads.
use Rattle.std.specs.Prelude.{List, ℕ, ◌+◌, ◌*◌, eqb}
use Rattle.bits.specs.Bits.{pick}
use Rattle.packing.specs.Loop.{iter}
use Rattle.chart_table.specs.declared.Layout.{Layout}
use Rattle.chart_table.specs.Table.{price_in}

-- how many of the first n entries hold a tree; and of all entries of a layout
unfoldable pub found_among : List ℕ → ℕ → ℕ
found_among t n = iter (λ m e. pick (eqb (price_in t (e * 4)) 0) m (m + 1)) 0 n

abbrev pub found_ranks : List ℕ → Layout → ℕ
found_ranks t d = found_among t (d.cells * d.ranks)
