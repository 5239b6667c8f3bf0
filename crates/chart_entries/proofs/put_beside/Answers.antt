-- The lower bits of the second number are read before it is stored.
use Rattle.chart_table.specs.Table.{put_beside}
use Rattle.chart_entries.proofs.put_beside.Goals as goal

pub returns : goal.returns
unfolding put_beside
returns c = rw (c.store-2.ensures, c.store.ensures, c.number_at-high.ensures.0, c.entry_of-at.ensures.0)
