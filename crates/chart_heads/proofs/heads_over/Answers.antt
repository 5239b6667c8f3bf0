-- The mask has the heads of every edge so far.
use native.Mathlib.Omega.{arith}
use borrow.Author.Rules.{rules}
use Rattle.chart_heads.proofs.Members.{heads_next}
use Rattle.chart_heads.proofs.heads_over.Goals as goal

pub loop-y-init : goal.loop-y-init
loop-y-init c = (search rules, record { has = λ z h l. absurd (omega (arith, h, l)) })

pub loop-y-preserved : goal.loop-y-preserved
loop-y-preserved c =
    (search rules, heads_next c.edge_heads-heads.result c.loop-y.invariant.1 (rw c.number_at.ensures.0 at c.edge_heads-heads.ensures))

pub returns : goal.returns
returns c =
    record {
      has = λ z h l. c.loop-y.invariant.1.has z (omega (arith, h, c.class_start-start.ensures.0))
          (omega (arith, l, c.class_end-end.ensures.0, c.loop-y-test.false));
    }
