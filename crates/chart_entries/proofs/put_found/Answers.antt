-- The upper bits of the second number are read before it is stored.
use Rattle.chart_table.specs.Table.{put_found}
use Rattle.chart_entries.proofs.put_found.Goals as goal

pub returns : goal.returns
unfolding put_found
returns c =
    rw (
      c.store-3.ensures,
      c.store-2.ensures,
      c.store.ensures,
      c.number_at-beside.ensures.0,
      c.entry_of-at.ensures.0,
    )
