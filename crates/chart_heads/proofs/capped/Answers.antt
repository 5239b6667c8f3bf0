-- By the test.
use mathlib.Core.Path.{◌∙◌}
use native.Mathlib.Omega.{arith}
use Rattle.chart_table.proofs.Places.{min_pick}
use Rattle.chart_heads.specs.Heads as model
use Rattle.chart_heads.proofs.capped.Goals as goal

pub returns : goal.returns
unfolding model.capped
returns c = (c.min.ensures ∙ min_pick _ _, omega arith)
