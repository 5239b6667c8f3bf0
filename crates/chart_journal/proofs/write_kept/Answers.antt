-- Six stores, tested at once or one by one.
use Rattle.chart_journal.specs.Journal.{write_kept}
use Rattle.chart_journal.proofs.write_kept.Goals as goal

pub returns : goal.returns
unfolding write_kept
returns c =
    rw (
      c.store-6.ensures,
      c.store-5.ensures,
      c.store-4.ensures,
      c.store-3.ensures,
      c.store-2.ensures,
      c.store.ensures,
    )
