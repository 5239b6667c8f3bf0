-- Four stores, tested at once or one by one.
use Rattle.chart_table.specs.Table.{clear_entry}
use Rattle.chart_clearing.proofs.clear_entry.Goals as goal

pub returns-then-at-t : goal.returns-then-at-t
unfolding clear_entry
returns-then-at-t c = rw (c.clear_within.ensures, c.entry_of-at.ensures.0)

pub returns : goal.returns
unfolding clear_entry
returns c = rw (c.store-4.ensures, c.store-3.ensures, c.store-2.ensures, c.store.ensures, c.entry_of-at.ensures.0)
