-- The loop is the iteration over lengths, the greatest first.
use mathlib.Core.Path.{refl, ◌∙◌}
use native.Mathlib.Omega.{arith}
use Rattle.packing.specs.Loop.{iter}
use Rattle.packing.proofs.Loop.{iter_more, iter_end}
use Rattle.outside_theory.specs.Model.{over_lengths}
use Rattle.outside_weights.proofs.over_lengths.Goals as goal

pub loop-x-init : goal.loop-x-init
unfolding iter
loop-x-init c = (omega arith, refl, refl, refl)

pub overflow_sub-places : goal.overflow_sub-places
overflow_sub-places c = omega (arith, c.loop-x-test.true)

pub over_spans-requires : goal.over_spans-requires
over_spans-requires c =
    (c.requires.0, omega (arith, c.loop-x-test.true), omega arith, rw c.loop-x.invariant.2 c.requires.1)

pub overflow_step-x : goal.overflow_step-x
overflow_step-x c =
    omega (arith, c.requires.0.places, c.loop-x-test.true)

pub loop-x-smaller : goal.loop-x-smaller
loop-x-smaller c =
    omega (arith, c.loop-x-test.true)

pub loop-x-preserved : goal.loop-x-preserved
loop-x-preserved c = (
  omega (arith, c.loop-x-test.true),
  c.over_spans.auto.t ∙ c.loop-x.invariant.1,
  c.over_spans.ensures.1 ∙ c.loop-x.invariant.2,
  c.over_spans.ensures.0 ∙ rw (iter_more, ← c.loop-x.invariant.3, c.loop-x.invariant.2),
)

pub shape_of-t : goal.shape_of-t
shape_of-t c = c.loop-x.invariant.1

pub returns : goal.returns
unfolding over_lengths
returns c =
    (c.loop-x.invariant.3 ∙ iter_end _ _ _ _ c.loop-x.invariant.0 c.loop-x-test.false, c.loop-x.invariant.2)
