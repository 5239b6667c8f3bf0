-- By the test, as in the definition.
use Rattle.chart_queue.proofs.Least.{price_fits}
use Rattle.chart_queue.specs.Queue.{push}
use borrow.Author.Rules.{rules}
use Rattle.chart_queue.proofs.push.Goals as goal

pub put_queued-requires : goal.put_queued-requires
put_queued-requires c = search (rules, price_fits c.args.key c.is_some.ensures c.if-is_some.true)

pub returns-then-is_some : goal.returns-then-is_some
unfolding push
returns-then-is_some c = simp (← c.is_some.ensures, c.if-is_some.true) (rw (c.put_queue_length.ensures, c.put_queued.ensures))

pub returns-else-is_some : goal.returns-else-is_some
unfolding push
returns-else-is_some c = simp (← c.is_some.ensures, c.if-is_some.false)
