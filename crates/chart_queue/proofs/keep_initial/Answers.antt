-- By the test, as in the definition.
use mathlib.Core.Path.{sym}
use Rattle.chart_queue.proofs.Least.{initial_is, keep_one, keep_none}
use Rattle.chart_queue.proofs.keep_initial.Goals as goal

pub returns-then-is_initial : goal.returns-then-is_initial
returns-then-is_initial c =
    rw (c.put_beside.ensures, c.beside_at-tally.ensures.0)
    (sym (keep_one _ _ _ _ (initial_is _ c.back_pointer.ensures.0 c.is_initial.ensures c.if-is_initial.true)))

pub returns-else-is_initial : goal.returns-else-is_initial
returns-else-is_initial c = sym (keep_none _ _ _ _ (initial_is _ c.back_pointer.ensures.0 c.is_initial.ensures c.if-is_initial.false))
