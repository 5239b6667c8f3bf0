-- A number beside the first rank, and no more than the ranks kept.
use mathlib.Core.Path.{◌∙◌}
use native.Mathlib.Omega.{arith}
use Rattle.chart_table.proofs.Places.{min_pick}
use Rattle.chart_queue.specs.Queue.{queue_length}
use Rattle.chart_queue.proofs.queue_length.Goals as goal

pub returns : goal.returns
unfolding queue_length
returns c = (rw (← c.beside_at.ensures.0) (c.min.ensures ∙ min_pick _ _), omega (arith, c.requires.0.ranks))
