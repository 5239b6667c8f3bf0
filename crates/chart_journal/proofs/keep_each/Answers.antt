-- One after another.
use Rattle.chart_journal.specs.Journal.{keep_four}
use Rattle.chart_journal.proofs.keep_each.Goals as goal

pub returns : goal.returns
unfolding keep_four
returns c = rw (c.keep_entry-4.ensures, c.keep_entry-3.ensures, c.keep_entry-2.ensures, c.keep_entry.ensures)
