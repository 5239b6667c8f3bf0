-- The loop is the iteration over the lengths.
use mathlib.Core.Path.{◌∙◌}
use borrow.Author.Rules.{rules}
use Rattle.packing.specs.Loop.{iter}
use Rattle.packing.proofs.Loop.{iter_more, iter_end}
use Rattle.chart_search.specs.Search.{first_pass}
use Rattle.chart_passes.proofs.first_pass.Goals as goal

pub loop-x-init : goal.loop-x-init
unfolding iter
loop-x-init c = search rules

pub loop-x-preserved : goal.loop-x-preserved
loop-x-preserved c = (
  search rules,
  search rules,
  search rules,
  search rules,
  search rules,
  rw (iter_more, ← c.loop-x.invariant.5) c.first_of_length.ensures.t_after,
)

pub returns : goal.returns
unfolding first_pass
returns c = c.loop-x.invariant.5 ∙ iter_end _ _ _ _ c.loop-x.invariant.0 c.loop-x-test.false
