-- The last rank found is the second digit of what stands beside the first rank.
use Rattle.chart_table.specs.Table.{last_rank}
use borrow.Author.Rules.{rules}
use Rattle.chart_clearing.proofs.last_rank.Goals as goal

pub returns : goal.returns
unfolding last_rank
returns c = (rw c.beside_at.ensures.0, search rules)
