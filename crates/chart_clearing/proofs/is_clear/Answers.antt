-- Four numbers whose sum is 0 are 0.
use mathlib.Core.Bool.{false≢true}
use borrow.Author.Tests.{eqb-true}
use Rattle.chart_clearing.proofs.Cleared.{sum_clear}
use Rattle.chart_clearing.proofs.is_clear.Goals as goal

pub returns-then-at-t : goal.returns-then-at-t
returns-then-at-t c =
    λ e. rw (← c.entry_of-at.ensures.0) (sum_clear c.wide.ensures.0 c.wide-then-at-t.ensures.0 c.wide-then-at-t-2.ensures.0
    c.wide-then-at-t-3.ensures.0 (eqb-true _ _ e))

pub returns : goal.returns
returns c = λ e. absurd (false≢true e)
