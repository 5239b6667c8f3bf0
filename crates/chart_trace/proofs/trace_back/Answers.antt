-- The loop's state is as Pending has it: after a node its left part is at hand and its right part pending, and after a leaf the part that is
-- next of those pending.
use mathlib.Core.Path.{refl, ◌∙◌}
use Prim.Native.Nat.{◌-◌}
use native.Mathlib.Omega.{arith}
use Rattle.chart_trace.proofs.Trace.{fuel_enough}
use Rattle.chart_trace.proofs.Pending.{starts, descends, resumes, ends}
use Rattle.chart_trace.proofs.trace_back.Goals as goal

pub loop-first-init : goal.loop-first-init
loop-first-init c = (refl, starts _ _ _ _ _ c.new-pending.ensures c.requires.0.order c.requires.0.last c.requires.1)

pub loop-first-preserved-in-Pair : goal.loop-first-preserved-in-Pair
loop-first-preserved-in-Pair c =
    let back = rw (c.back_at.ensures.0, c.cell_number.ensures.0) at c.back_pointer-back.ensures.0 in (
      c.store_node.auto.trace ∙ c.loop-first.invariant.0,
      rw (c.left_part.ensures, c.store_node.ensures) (descends _ _ _ c.loop-first.invariant.1 back c.back_pointer-back.ensures.1 c.requires.0.last
          c.in-Pair.is c.rule_within.ensures c.push.ensures),
    )

pub returns-in_default : goal.returns-in_default
returns-in_default c = λ f h.
    let a = c.args in
    let back = rw (c.back_at.ensures.0, c.cell_number.ensures.0) at c.back_pointer-back.ensures.0 in
    rw (fuel_enough a.t.now a.rules.now a.d f (a.c.to - a.c.from) a.c a.rank c.requires.0.order h (omega arith))
    (ends _ _ _ c.loop-first.invariant.1 back c.in-Word.is c.rule_within.ensures c.pop.ensures.0 c.in_default.is c.store_node.ensures)

pub loop-first-preserved : goal.loop-first-preserved
loop-first-preserved c =
    let back = rw (c.back_at.ensures.0, c.cell_number.ensures.0) at c.back_pointer-back.ensures.0 in (
      c.store_node.auto.trace ∙ c.loop-first.invariant.0,
      rw c.store_node.ensures (resumes _ _ _ c.loop-first.invariant.1 back c.in-Word.is c.rule_within.ensures c.requires.0.last c.pop.ensures.0
          c.in-Some.is c.pop.ensures.1),
    )
