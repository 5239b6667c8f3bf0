-- The entry's numbers are those that both definitions read.
use borrow.Author.Tests.{lt-ltb}
use Rattle.chart_table.specs.Table.{price_at, back_at}
use Rattle.chart_trace.proofs.checked.tree_of.Goals as goal

pub returns-then-at-t : goal.returns-then-at-t
unfolding price_at back_at
returns-then-at-t c = (
  rw (← c.cell_number-c.ensures.0, lt-ltb _ _ c.if-part-d.true, ← c.entry_of-at.ensures.0) c.price_within.ensures.0,
  rw (← c.cell_number-c.ensures.0, ← c.entry_of-at.ensures.0) c.wide.ensures.0,
  c.wide.ensures.1,
)

pub returns : goal.returns
returns c =
    (rw (← c.cell_number-c.ensures.0) c.price_at.ensures.0, rw (← c.cell_number-c.ensures.0) c.back_at.ensures.0, c.back_at.ensures.1)
