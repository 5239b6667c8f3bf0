-- By the test, as in the definition.
use Rattle.chart_queue.proofs.Least.{price_fits}
use Rattle.chart_queue.specs.Queue.{replace}
use borrow.Author.Rules.{rules}
use Rattle.chart_queue.proofs.replace.Goals as goal

pub put_queued-requires : goal.put_queued-requires
put_queued-requires c = search (rules, price_fits c.args.key c.is_some.ensures c.if-is_some.true)

pub returns-then-is_some : goal.returns-then-is_some
unfolding replace
returns-then-is_some c = simp (← c.is_some.ensures, c.if-is_some.true) c.put_queued.ensures

pub returns : goal.returns
unfolding replace
returns c = simp (← c.is_some.ensures, c.if-is_some.false) (rw (c.put_queue_length.ensures, c.move_queued.ensures))
