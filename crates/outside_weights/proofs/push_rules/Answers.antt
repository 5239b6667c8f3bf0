-- The loop is the iteration over the class of the node's head.
use mathlib.Core.Path.{refl, sym, ◌∙◌}
use native.Mathlib.Omega.{arith}
use Rattle.packing.proofs.Loop.{iter_end}
use Rattle.outside_theory.specs.Model.{push_rules}
use Rattle.outside_weights.proofs.Steps.{from_none, from_more}
use Rattle.outside_weights.proofs.push_rules.Goals as goal

pub loop-y-init : goal.loop-y-init
loop-y-init c = (omega arith, omega arith, refl, refl, sym (from_none _ _ _))

pub push_rule-requires : goal.push_rule-requires
push_rule-requires c =
    (c.requires.0, c.requires.1, c.requires.2, rw c.loop-y.invariant.3 c.requires.3, c.number_at.ensures.1, c.requires.5)

pub overflow_step-y : goal.overflow_step-y
overflow_step-y c =
    omega (arith, c.class_end-end.ensures.1, c.loop-y-test.true)

pub loop-y-smaller : goal.loop-y-smaller
loop-y-smaller c =
    omega (arith, c.loop-y-test.true)

pub loop-y-preserved : goal.loop-y-preserved
loop-y-preserved c = (
  omega (arith, c.loop-y.invariant.0),
  omega (arith, c.loop-y-test.true, c.loop-y.invariant.0),
  c.push_rule.auto.t ∙ c.loop-y.invariant.2,
  c.push_rule.ensures.1 ∙ c.loop-y.invariant.3,
  c.push_rule.ensures.0 ∙ rw (
    from_more _ _ _ _
        c.loop-y.invariant.0,
    ← c.loop-y.invariant.4,
    c.loop-y.invariant.3,
    c.number_at.ensures.0,
  ),
)

pub shape_of-t : goal.shape_of-t
shape_of-t c = c.loop-y.invariant.2

pub returns : goal.returns
unfolding push_rules
returns c = (
  c.loop-y.invariant.4 ∙ iter_end _ _ _ _ c.loop-y.invariant.1 (omega (arith, c.loop-y-test.false))
      ∙ rw (c.class_start-start.ensures.0, c.class_end-end.ensures.0, c.wide.ensures.0, c.wide-2.ensures.0),
  c.loop-y.invariant.3,
)
