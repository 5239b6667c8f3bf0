-- By the digits of the parts.
use Rattle.chart_heads.proofs.Members.{live_parts}
use Rattle.chart_heads.proofs.live_heads.Goals as goal

pub returns : goal.returns
returns c =
    rw (c.narrow_at-left.ensures, c.narrow_at-right.ensures, c.narrow_at-first_strays.ensures, c.narrow_at-second_strays.ensures)
    (live_parts _ _ _ _)
