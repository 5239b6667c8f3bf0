-- The back pointer is the third number of the entry.
use Rattle.chart_table.specs.Table.{back_at}
use borrow.Author.Rules.{rules}
use Rattle.chart_entries.proofs.back_at.Goals as goal

pub returns : goal.returns
unfolding back_at
returns c = ((cc), search rules)
