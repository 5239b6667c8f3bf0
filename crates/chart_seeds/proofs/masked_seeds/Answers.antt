-- A rule whose parts do not meet changes nothing.
use mathlib.Core.Path.{sym}
use Rattle.chart_candidates.proofs.PassedOver.{rule_passed}
use Rattle.chart_seeds.proofs.masked_seeds.Goals as goal

pub returns : goal.returns
returns c =
    sym (rule_passed _ _ _ c.requires.2 _ _ _ c.requires.0.last c.requires.3 c.args.rules.now c.args.r
    (c.parts_meet.ensures c.if-parts_meet.false))
