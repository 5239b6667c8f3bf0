-- One after another.
use Rattle.chart_journal.specs.Journal.{write_four}
use Rattle.chart_journal.proofs.copy_four.Goals as goal

pub returns : goal.returns
unfolding write_four
returns c = rw (c.copy_entry-4.ensures, c.copy_entry-3.ensures, c.copy_entry-2.ensures, c.copy_entry.ensures)
