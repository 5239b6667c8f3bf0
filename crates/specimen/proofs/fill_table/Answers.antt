-- The loop is the definition's, turn by turn. Assumes nothing.
use mathlib.Core.Path.{◌∙◌}
use borrow.Author.Rules.{rules}
use Rattle.packing.specs.Loop.{iter}
use Rattle.packing.proofs.Loop.{iter_more, iter_end}
use Rattle.phrases.specs.Recursion.{fill}
use Rattle.specimen.proofs.fill_table.Goals as goal

pub loop-c-init : goal.loop-c-init
unfolding iter
loop-c-init c = search rules

pub loop-c-preserved : goal.loop-c-preserved
loop-c-preserved c = (search rules, search rules, rw iter_more (cc))

pub returns : goal.returns
unfolding fill
returns c = c.loop-c.invariant.2 ∙ iter_end _ _ _ _ c.loop-c.invariant.0 (search rules)
