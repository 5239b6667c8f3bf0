-- The cells that start before a place and end at the other are marked.
use mathlib.Core.Path.{refl, ◌∙◌}
use native.Mathlib.Omega.{arith}
use Rattle.found_masks.proofs.Marking.{marked_none, marked_more, marked_fewer, next_start}
use Rattle.found_masks.proofs.mark_spans.Goals as goal

pub loop-from-init : goal.loop-from-init
loop-from-init c = (omega arith, refl, marked_none (λ x p. omega (arith, p.1)))

pub mark_heads-requires : goal.mark_heads-requires
mark_heads-requires c =
    (c.requires.0, c.loop-from-test.true, c.requires.1, omega (arith, c.loop-from.invariant.1, c.requires.2))

pub overflow_step-from : goal.overflow_step-from
overflow_step-from c =
    omega (arith, c.requires.0.places, c.requires.1, c.loop-from-test.true)

pub loop-from-smaller : goal.loop-from-smaller
loop-from-smaller c =
    omega (arith, c.loop-from-test.true)

pub loop-from-preserved : goal.loop-from-preserved
loop-from-preserved c = (
  omega (arith, c.loop-from-test.true),
  c.mark_heads.ensures.size ∙ c.loop-from.invariant.1,
  marked_more c.loop-from.invariant.2 c.mark_heads.ensures (next_start _ _ _),
)

pub shape_of-masks : goal.shape_of-masks
shape_of-masks c = c.loop-from.invariant.1

pub returns : goal.returns
returns c =
    marked_fewer c.loop-from.invariant.2 (λ x p. (p.0, omega (arith, p.1, c.loop-from-test.false, c.loop-from.invariant.0), p.2))
