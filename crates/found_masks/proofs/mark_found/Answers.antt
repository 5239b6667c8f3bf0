-- The cells that end up to a place are marked.
use mathlib.Core.Path.{refl, ◌∙◌}
use native.Mathlib.Omega.{arith}
use Rattle.found_masks.proofs.Marking.{marked_none, marked_more, marked_fewer, next_end}
use Rattle.found_masks.proofs.mark_found.Goals as goal

pub loop-x-init : goal.loop-x-init
loop-x-init c = (omega arith, refl, marked_none (λ x p. omega (arith, p.1, p.2)))

pub overflow_add-x : goal.overflow_add-x
overflow_add-x c =
    omega (arith, c.requires.0.places, c.loop-x-test.true)

pub mark_spans-requires : goal.mark_spans-requires
mark_spans-requires c =
    (c.requires.0, omega (arith, c.loop-x-test.true), omega (arith, c.loop-x.invariant.1, c.requires.1))

pub overflow_step-x : goal.overflow_step-x
overflow_step-x c =
    omega (arith, c.requires.0.places, c.loop-x-test.true)

pub loop-x-smaller : goal.loop-x-smaller
loop-x-smaller c =
    omega (arith, c.loop-x-test.true)

pub loop-x-preserved : goal.loop-x-preserved
loop-x-preserved c = (
  omega (arith, c.loop-x-test.true),
  c.mark_spans.ensures.size ∙ c.loop-x.invariant.1,
  marked_more c.loop-x.invariant.2 c.mark_spans.ensures (next_end _ _),
)

pub shape_of-masks : goal.shape_of-masks
shape_of-masks c = c.loop-x.invariant.1

pub returns : goal.returns
returns c =
    marked_fewer c.loop-x.invariant.2 (λ x p. (p.0, p.1, omega (arith, p.2, c.loop-x-test.false, c.loop-x.invariant.0)))
