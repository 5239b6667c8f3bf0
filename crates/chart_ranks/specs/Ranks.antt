-- The next rank of a cell, from the last one found.
-- Nobody need believe this page: the theorems of chart_theory join it to the derivations. Assumes nothing.
use Rattle.std.specs.Prelude.{List, ℕ, ◌-◌, ltb}
use Rattle.bits.specs.Bits.{pick}
use Rattle.chart_keys.specs.Keys.{back_pointer, no_key}
use Rattle.chart_table.specs.declared.Cell.{Cell}
use Rattle.chart_table.specs.declared.Layout.{Layout}
use Rattle.chart_table.specs.Table.{cell_number, price_at, back_at, put_key}
use Rattle.chart_queue.specs.Queue.{extract_min}
use Rattle.chart_successors.specs.declared.Found.{Found}
use Rattle.chart_successors.specs.Successors.{successors, least_initial, replacement}

-- the key and the back pointer of a rank that is found
unfoldable pub found_at : List ℕ → Layout → ℕ → ℕ → Found
found_at t d number rank =
    record { key = record { price = price_at t d number rank; back = back_at t d number rank }; back = back_pointer (back_at t d number rank) }

module _ (rules edges index : List ℕ) (d : Layout) where
  -- the first rank: the least of what follows none
  unfoldable pub first_rank : Cell → List ℕ → List ℕ
  first_rank c t = put_key t d (cell_number d c) 0 (least_initial t d rules edges index c 0)

  -- a further rank: the least of the queue, the successors of the rank before it, and what replaces that
  unfoldable pub next_rank : Cell → ℕ → List ℕ → List ℕ
  next_rank c rank t =
      let last = found_at t d (cell_number d c) (rank - 1) in
      let successor = successors t d rules c last no_key in
      let other = replacement t d rules edges index c last in
      extract_min t d (cell_number d c) rank (pick (ltb other successor) other successor) (pick (ltb other successor) successor other)
