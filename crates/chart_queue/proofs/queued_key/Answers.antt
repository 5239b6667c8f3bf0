-- What stands beside the rank.
use Rattle.chart_queue.specs.Queue.{queued_key}
use Rattle.chart_queue.proofs.queued_key.Goals as goal

pub returns : goal.returns
unfolding queued_key
returns c = rw (c.key_of.ensures.0, c.beside_at.ensures.0)
