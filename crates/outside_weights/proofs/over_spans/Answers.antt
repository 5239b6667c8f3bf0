-- The loop is the iteration over the places where a span of the length may start.
use mathlib.Core.Path.{refl, ◌∙◌}
use native.Mathlib.Omega.{arith}
use Rattle.packing.specs.Loop.{iter}
use Rattle.packing.proofs.Loop.{iter_more, iter_end}
use Rattle.outside_theory.specs.Model.{over_spans}
use Rattle.outside_weights.proofs.over_spans.Goals as goal

pub overflow_add-spans : goal.overflow_add-spans
overflow_add-spans c =
    omega (arith, c.requires.0.places)

pub overflow_sub-spans : goal.overflow_sub-spans
overflow_sub-spans c =
    omega (arith, c.requires.2)

pub loop-from-init : goal.loop-from-init
unfolding iter
loop-from-init c = (omega arith, refl, refl, refl)

pub overflow_add-from : goal.overflow_add-from
overflow_add-from c =
    omega (arith, c.requires.0.places, c.requires.2, c.loop-from-test.true)

pub over_heads-requires : goal.over_heads-requires
over_heads-requires c = (
  c.requires.0,
  omega (arith, c.requires.1),
  omega (arith, c.requires.2, c.loop-from-test.true),
  rw c.loop-from.invariant.2 c.requires.3,
)

pub overflow_step-from : goal.overflow_step-from
overflow_step-from c =
    omega (arith, c.requires.0.places, c.requires.2, c.loop-from-test.true)

pub loop-from-smaller : goal.loop-from-smaller
loop-from-smaller c =
    omega (arith, c.loop-from-test.true)

pub loop-from-preserved : goal.loop-from-preserved
loop-from-preserved c = (
  omega (arith, c.loop-from-test.true),
  c.over_heads.auto.t ∙ c.loop-from.invariant.1,
  c.over_heads.ensures.1 ∙ c.loop-from.invariant.2,
  c.over_heads.ensures.0 ∙ rw (iter_more, ← c.loop-from.invariant.3, c.loop-from.invariant.2),
)

pub shape_of-t : goal.shape_of-t
shape_of-t c = c.loop-from.invariant.1

pub returns : goal.returns
unfolding over_spans
returns c =
    (c.loop-from.invariant.3 ∙ iter_end _ _ _ _ c.loop-from.invariant.0 c.loop-from-test.false, c.loop-from.invariant.2)
