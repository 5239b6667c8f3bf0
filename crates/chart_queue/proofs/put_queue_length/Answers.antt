-- The digits above the length stay.
use Rattle.chart_queue.specs.Queue.{put_queue_length}
use Rattle.chart_queue.proofs.put_queue_length.Goals as goal

pub returns : goal.returns
unfolding put_queue_length
returns c = rw (c.put_beside.ensures, c.beside_at-n.ensures.0)
