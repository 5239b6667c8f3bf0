-- By whether there is a part.
use Rattle.chart_trace.proofs.RightParts.{pops_none, pops_one}
use Rattle.chart_trace.proofs.right_parts.Pending.pop.Goals as goal

pub returns-then-self-eq0 : goal.returns-then-self-eq0
returns-then-self-eq0 c = pops_none _ _ _ c.if-self-eq0.true

pub returns : goal.returns
returns c = pops_one _ _ _ c.if-self-eq0.false
