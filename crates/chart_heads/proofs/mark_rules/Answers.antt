-- Three columns, one after another.
use Rattle.chart_heads.proofs.Members.{ruled_zeros}
use Rattle.chart_heads.proofs.mark_rules.Goals as goal

pub returns : goal.returns
returns c =
    ruled_zeros c.requires.0 c.requires.2 c.mark_heads.ensures.0 c.mark_heads.ensures.1
    c.mark_heads-2.ensures.0 c.mark_heads-2.ensures.1 c.mark_heads-3.ensures.0
    c.mark_heads-3.ensures.1
