-- Four stores.
use Rattle.chart_journal.specs.Journal.{restore_entry}
use Rattle.chart_journal.proofs.restore_entry.Goals as goal

pub returns : goal.returns
unfolding restore_entry
returns c =
    rw (
      c.store_behind-4.ensures,
      c.store_behind-3.ensures,
      c.store_behind-2.ensures,
      c.store_behind.ensures,
      c.narrow_at.ensures,
      c.narrow_at-2.ensures,
      c.narrow_at-3.ensures,
      c.narrow_at-4.ensures,
      c.number_at.ensures.0,
      c.number_at-2.ensures.0,
    )
