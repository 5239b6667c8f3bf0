-- Each number so far has the head in its mask, and nothing is taken from a mask.
use native.Mathlib.Omega.{arith}
use Rattle.chart_heads.proofs.Members.{more_none, more_next}
use borrow.Author.Rules.{rules}
use Rattle.chart_heads.proofs.mark_head.Goals as goal

pub loop-y-init : goal.loop-y-init
loop-y-init c = (search rules, c.class_start-start.ensures.0, search rules, rw c.class_start-start.ensures.0 (more_none _ _ _ _ _))

pub loop-y-preserved : goal.loop-y-preserved
loop-y-preserved c = (
  search rules,
  search rules,
  search rules,
  more_next c.capped.result c.number_at-x.result c.only-own.result c.requires.head_le_last_place.3 c.loop-y.invariant.3
      (rw (← c.number_at.ensures.0) c.number_at-x.ensures.0) c.capped.ensures.0 c.only-own.ensures
      c.put.ensures,
)

pub shape_of-masks : goal.shape_of-masks
shape_of-masks c = c.loop-y.invariant.2

pub returns : goal.returns
returns c = record {
  grown = c.loop-y.invariant.3.grown;
  more = λ z h l. c.loop-y.invariant.3.more z h (omega (arith, c.class_end-end.ensures.0, c.loop-y-test.false));
}
