-- By the test, as in the definition.
use borrow.Author.Tests.{lt-ltb, le-ltb}
use Rattle.chart_queue.specs.Queue.{tagged_back}
use Rattle.chart_queue.proofs.tagged_back.Goals as goal

pub returns-then-rank-d : goal.returns-then-rank-d
unfolding tagged_back
returns-then-rank-d c = simp (lt-ltb _ _ c.if-rank-d.true) (rw (c.shifted.ensures, c.back_at.ensures.0))

pub returns : goal.returns
unfolding tagged_back
returns c = simp (le-ltb _ _ c.if-rank-d.false) (rw c.beside_at.ensures.0)
