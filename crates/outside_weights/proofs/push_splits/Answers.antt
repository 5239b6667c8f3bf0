-- The loop is the iteration over the places between the node's ends.
use mathlib.Core.Path.{refl, ◌∙◌}
use native.Mathlib.Omega.{arith}
use Rattle.packing.specs.Loop.{iter}
use Rattle.packing.proofs.Loop.{iter_more, iter_end}
use Rattle.outside_theory.specs.Model.{push_splits}
use Rattle.outside_weights.proofs.push_splits.Goals as goal

pub overflow_sub-splits : goal.overflow_sub-splits
overflow_sub-splits c = omega (arith, c.requires.1)

pub overflow_sub-splits-2 : goal.overflow_sub-splits-2
overflow_sub-splits-2 c = omega (arith, c.requires.1)

pub loop-x-init : goal.loop-x-init
unfolding iter
loop-x-init c = (omega arith, refl, refl, refl)

pub overflow_add-split : goal.overflow_add-split
overflow_add-split c =
    omega (arith, c.requires.0.places, c.requires.1, c.requires.2, c.loop-x-test.true)

pub overflow_add-split-in-loop-x : goal.overflow_add-split-in-loop-x
overflow_add-split-in-loop-x c =
    omega (arith, c.requires.0.places, c.requires.1, c.requires.2, c.loop-x-test.true)

pub cell_number-requires : goal.cell_number-requires
cell_number-requires c = (
  c.requires.0,
  omega (arith, c.requires.0.places, c.requires.1, c.requires.2, c.loop-x-test.true),
  omega arith,
  omega (arith, c.requires.0.places, c.requires.1, c.requires.2, c.loop-x-test.true),
)

pub cell_number-requires-in-loop-x : goal.cell_number-requires-in-loop-x
cell_number-requires-in-loop-x c = (
  c.requires.0,
  omega (arith, c.requires.0.places, c.requires.1, c.requires.2, c.loop-x-test.true),
  omega (arith, c.requires.1),
  omega (arith, c.requires.0.places, c.requires.1, c.requires.2, c.loop-x-test.true),
)

pub push_split-requires : goal.push_split-requires
push_split-requires c =
    (c.requires.0, c.cell_number.ensures.1, c.cell_number-in-loop-x.ensures.1, c.requires.3)

pub overflow_step-x : goal.overflow_step-x
overflow_step-x c =
    omega (arith, c.requires.0.places, c.requires.1, c.requires.2, c.loop-x-test.true)

pub loop-x-smaller : goal.loop-x-smaller
loop-x-smaller c =
    omega (arith, c.loop-x-test.true)

pub loop-x-preserved : goal.loop-x-preserved
loop-x-preserved c = (
  omega (arith, c.loop-x-test.true),
  c.push_split.auto.t ∙ c.loop-x.invariant.1,
  c.push_split.ensures.1 ∙ c.loop-x.invariant.2,
  c.push_split.ensures.0 ∙ rw
      (iter_more, ← c.loop-x.invariant.3, c.loop-x.invariant.2, c.cell_number.ensures.0, c.cell_number-in-loop-x.ensures.0),
)

pub shape_of-t : goal.shape_of-t
shape_of-t c = c.loop-x.invariant.1

pub returns : goal.returns
unfolding push_splits
returns c =
    (c.loop-x.invariant.3 ∙ iter_end _ _ _ _ c.loop-x.invariant.0 c.loop-x-test.false, c.loop-x.invariant.2)
