-- The loop is the definition's, turn by turn. Assumes nothing.
use mathlib.Core.Path.{◌∙◌}
use Rattle.packing.specs.Loop.{iter}
use Rattle.packing.proofs.Loop.{iter_more, iter_end}
use borrow.Author.Rules.{rules}
use Rattle.specimen.proofs.lesser_pair.Goals as goal

pub loop-y-init : goal.loop-y-init
unfolding iter
loop-y-init c = search rules

pub loop-y-preserved : goal.loop-y-preserved
loop-y-preserved c = (search rules, rw iter_more (cc))

pub returns : goal.returns
returns c = c.loop-y.invariant.1 ∙ iter_end _ _ _ _ c.loop-y.invariant.0 (search rules)
