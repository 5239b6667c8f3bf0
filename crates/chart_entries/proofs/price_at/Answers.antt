-- A rank that is not kept is not read.
use borrow.Author.Tests.{lt-ltb, le-ltb}
use Rattle.chart_table.specs.Table.{price_at}
use borrow.Author.Rules.{rules}
use Rattle.chart_entries.proofs.price_at.Goals as goal

pub returns-then-rank-d : goal.returns-then-rank-d
unfolding price_at
returns-then-rank-d c = (
  simp (lt-ltb _ _ c.if-rank-d.true) (rw
      (c.price_of.ensures.0, c.narrow_at.ensures, c.narrow_at-then-rank-d.ensures, c.entry_of-at.ensures.0)),
  search rules,
)

pub returns-else-rank-d : goal.returns-else-rank-d
unfolding price_at
returns-else-rank-d c = search (rules, le-ltb)
