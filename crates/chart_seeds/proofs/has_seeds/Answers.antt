-- No rule passed has parts that meet.
use mathlib.Core.Bool.{false≢true}
use mathlib.Core.Path.{sym}
use native.Mathlib.Omega.{arith}
use borrow.Author.Count.{below_more}
use borrow.Author.Rules.{rules}
use Rattle.chart_seeds.proofs.has_seeds.Goals as goal

pub loop-y-init : goal.loop-y-init
loop-y-init c = (search rules, λ z h l. absurd (omega (arith, h, l)))

pub returns-then-parts_meet : goal.returns-then-parts_meet
returns-then-parts_meet c = λ e. absurd (false≢true (sym e))

pub loop-y-preserved : goal.loop-y-preserved
loop-y-preserved c = (
  search rules,
  below_more _ _ c.loop-y.invariant.1
      (λ l. rw (← c.number_at.ensures.0) (c.parts_meet.ensures c.if-parts_meet.false)),
)

pub returns : goal.returns
returns c =
    λ e z h l. let s = rw c.wide-head.ensures.0 at c.class_start-start.ensures.0 in let s₂ =
    rw c.wide-head.ensures.0 at c.class_end-end.ensures.0 in c.loop-y.invariant.1 z (omega (arith, l, s₂, c.loop-y-test.false))
    (omega (arith, h, s))
