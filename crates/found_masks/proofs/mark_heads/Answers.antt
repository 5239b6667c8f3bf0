-- The cells of the heads so far are marked.
use mathlib.Core.Path.{refl, ◌∙◌}
use native.Mathlib.Omega.{arith}
use Rattle.found_masks.proofs.Marking.{marked_none, marked_more, marked_fewer, next_head}
use Rattle.found_masks.proofs.mark_heads.Goals as goal

pub loop-a-init : goal.loop-a-init
loop-a-init c = (omega arith, refl, marked_none (λ x p. omega (arith, p.0)))

pub overflow_cast-c : goal.overflow_cast-c
overflow_cast-c c =
    omega (arith, c.requires.0.symbols, c.loop-a-test.true)

pub mark_cell-requires : goal.mark_cell-requires
mark_cell-requires c = (
  c.requires.0,
  c.requires.1,
  c.requires.2,
  omega (arith, c.requires.0.symbols, c.loop-a-test.true),
  omega (arith, c.loop-a.invariant.1, c.requires.3),
)

pub overflow_step-a : goal.overflow_step-a
overflow_step-a c =
    omega (arith, c.requires.0.symbols, c.loop-a-test.true)

pub loop-a-smaller : goal.loop-a-smaller
loop-a-smaller c =
    omega (arith, c.loop-a-test.true)

pub loop-a-preserved : goal.loop-a-preserved
loop-a-preserved c = (
  omega (arith, c.loop-a-test.true),
  c.mark_cell.ensures.size ∙ c.loop-a.invariant.1,
  marked_more c.loop-a.invariant.2 c.mark_cell.ensures (next_head _ _ _),
)

pub shape_of-masks : goal.shape_of-masks
shape_of-masks c = c.loop-a.invariant.1

pub returns : goal.returns
returns c =
    marked_fewer c.loop-a.invariant.2 (λ x p. (omega (arith, p.0, c.loop-a-test.false, c.loop-a.invariant.0), p.1, p.2))
