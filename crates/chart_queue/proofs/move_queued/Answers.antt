-- What is read is written.
use Rattle.chart_queue.specs.Queue.{move_queued}
use Rattle.chart_queue.proofs.move_queued.Goals as goal

pub returns : goal.returns
unfolding move_queued
returns c = rw (c.put_beside.ensures, c.beside_at-n.ensures.0)
