-- Where no rule has parts that meet, there are no seeds.
use mathlib.Core.Path.{sym}
use Rattle.chart_candidates.proofs.PassedOver.{seeds_passed}
use Rattle.chart_seeds.proofs.first_seeds.Goals as goal

pub returns : goal.returns
returns c =
    sym (seeds_passed _ _ _ c.requires.1 _ 0 _ c.requires.0.last c.requires.2 c.args.rules.now c.args.index.now
    (c.has_seeds.ensures c.if-has_seeds.false))
