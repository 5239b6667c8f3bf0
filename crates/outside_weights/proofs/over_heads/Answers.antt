-- The loop is the iteration over the heads.
use mathlib.Core.Path.{refl, ◌∙◌}
use native.Mathlib.Omega.{arith}
use Rattle.packing.specs.Loop.{iter}
use Rattle.packing.proofs.Loop.{iter_more, iter_end}
use Rattle.outside_theory.specs.Model.{over_heads}
use Rattle.outside_weights.proofs.over_heads.Goals as goal

pub loop-a-init : goal.loop-a-init
unfolding iter
loop-a-init c = (omega arith, refl, refl, refl)

pub overflow_cast-node : goal.overflow_cast-node
overflow_cast-node c =
    omega (arith, c.requires.0.symbols, c.loop-a-test.true)

pub push_node-requires : goal.push_node-requires
push_node-requires c = (
  c.requires.0,
  c.requires.1,
  c.requires.2,
  rw c.loop-a.invariant.2 c.requires.3,
  omega (arith, c.requires.0.symbols, c.loop-a-test.true),
)

pub overflow_step-a : goal.overflow_step-a
overflow_step-a c =
    omega (arith, c.requires.0.symbols, c.loop-a-test.true)

pub loop-a-smaller : goal.loop-a-smaller
loop-a-smaller c =
    omega (arith, c.loop-a-test.true)

pub loop-a-preserved : goal.loop-a-preserved
loop-a-preserved c = (
  omega (arith, c.loop-a-test.true),
  c.push_node.auto.t ∙ c.loop-a.invariant.1,
  c.push_node.ensures.1 ∙ c.loop-a.invariant.2,
  c.push_node.ensures.0 ∙ rw (iter_more, ← c.loop-a.invariant.3, c.loop-a.invariant.2),
)

pub shape_of-t : goal.shape_of-t
shape_of-t c = c.loop-a.invariant.1

pub returns : goal.returns
unfolding over_heads
returns c =
    (c.loop-a.invariant.3 ∙ iter_end _ _ _ _ c.loop-a.invariant.0 c.loop-a-test.false, c.loop-a.invariant.2)
