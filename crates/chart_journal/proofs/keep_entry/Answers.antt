-- By whether there is room, as in the definition.
use borrow.Author.Tests.{lt-ltb, le-ltb}
use Rattle.chart_journal.specs.Journal.{keep_entry}
use Rattle.chart_journal.proofs.keep_entry.Goals as goal

pub returns-then-n-lt-MOST_KEPT : goal.returns-then-n-lt-MOST_KEPT
unfolding keep_entry
returns-then-n-lt-MOST_KEPT c =
    rw (c.store.ensures, c.write_kept.ensures, c.numbers_at.ensures)
    (simp (← c.number_at-n.ensures.0, lt-ltb _ _ c.if-n-lt-MOST_KEPT.true))

pub returns-else-n-lt-MOST_KEPT : goal.returns-else-n-lt-MOST_KEPT
unfolding keep_entry
returns-else-n-lt-MOST_KEPT c = simp (← c.number_at-n.ensures.0, le-ltb _ _ c.if-n-lt-MOST_KEPT.false)
