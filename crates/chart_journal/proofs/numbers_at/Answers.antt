-- Four reads, tested at once or one by one.
use Rattle.chart_journal.proofs.numbers_at.Goals as goal

pub returns : goal.returns
returns c = rw (c.narrow_at.ensures, c.narrow_at-2.ensures, c.narrow_at-3.ensures, c.narrow_at-4.ensures)
