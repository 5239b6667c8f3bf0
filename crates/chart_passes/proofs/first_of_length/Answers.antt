-- The loop is the iteration over the places that a span can start at.
use mathlib.Core.Path.{◌∙◌}
use borrow.Author.Rules.{rules}
use Rattle.packing.specs.Loop.{iter}
use Rattle.packing.proofs.Loop.{iter_more, iter_end}
use Rattle.chart_search.specs.Search.{first_of_length}
use Rattle.chart_passes.proofs.first_of_length.Goals as goal

pub loop-i-init : goal.loop-i-init
unfolding iter
loop-i-init c = search rules

pub loop-i-preserved : goal.loop-i-preserved
loop-i-preserved c = (
  search rules,
  search rules,
  search rules,
  search rules,
  search rules,
  rw (iter_more, ← c.loop-i.invariant.5) c.first_of_heads.ensures.t_after,
)

pub returns : goal.returns
unfolding first_of_length
returns c = record {
  t_after = c.loop-i.invariant.5 ∙ iter_end _ _ _ _ c.loop-i.invariant.0 c.loop-i-test.false;
  covers = c.loop-i.invariant.3;
  ruled = c.loop-i.invariant.4;
}
