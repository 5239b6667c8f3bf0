-- The test for the ranks kept is the definition's.
use borrow.Author.Tests.{lt-ltb, le-ltb}
use Rattle.chart_table.specs.Table.{ranks_to_clear}
use borrow.Author.Rules.{rules}
use Rattle.chart_clearing.proofs.ranks_to_clear.Goals as goal

pub returns-then-last-d : goal.returns-then-last-d
unfolding ranks_to_clear
returns-then-last-d c = (simp (← c.last_rank-last.ensures.0, lt-ltb _ _ c.if-last-d.true), search rules)

pub returns-else-last-d : goal.returns-else-last-d
unfolding ranks_to_clear
returns-else-last-d c = (simp (← c.last_rank-last.ensures.0, le-ltb _ _ c.if-last-d.false), search rules)
