-- The test is the definition's.
use borrow.Author.Tests.{lt-ltb, le-ltb}
use Rattle.chart_table.specs.Table.{last_rank, put_last_rank}
use Rattle.chart_entries.proofs.put_last_rank.Goals as goal

pub returns-then-tally-rank : goal.returns-then-tally-rank
unfolding last_rank put_last_rank
returns-then-tally-rank c = simp (← c.beside_at-tally.ensures.0, lt-ltb _ _ c.if-tally-rank.true) (rw c.put_beside.ensures)

pub returns-else-tally-rank : goal.returns-else-tally-rank
unfolding last_rank put_last_rank
returns-else-tally-rank c = simp (← c.beside_at-tally.ensures.0, le-ltb _ _ c.if-tally-rank.false)
