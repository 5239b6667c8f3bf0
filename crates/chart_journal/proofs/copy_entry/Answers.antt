-- The entry is read, and written.
use Rattle.chart_journal.proofs.copy_entry.Goals as goal

pub returns : goal.returns
returns c = rw (c.write_within.ensures, c.numbers_at.ensures)
