-- The numbers of an entry are below 2 ^ 32.
use Rattle.chart_table.specs.Table.{beside_at}
use borrow.Author.Rules.{rules}
use Rattle.chart_entries.proofs.beside_at.Goals as goal

pub returns : goal.returns
unfolding beside_at
returns c = (rw (c.number_at.ensures.0, c.number_at-2.ensures.0, c.entry_of-at.ensures.0), search rules)
