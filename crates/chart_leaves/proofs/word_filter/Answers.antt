-- The filter has the word of every rule so far.
use native.Mathlib.Omega.{arith}
use borrow.Author.Rules.{rules}
use Rattle.chart_candidates.proofs.PassedOver.{filter_next}
use Rattle.chart_leaves.proofs.word_filter.Goals as goal

pub loop-y-init : goal.loop-y-init
loop-y-init c = (search rules, record { has = λ z h l. absurd (omega (arith, h, l)) })

pub loop-y-preserved : goal.loop-y-preserved
loop-y-preserved c = (
  search rules,
  rw (c.word_bit-filter.ensures, c.narrow_at.ensures, c.number_at-r.ensures.0)
      (filter_next c.args.rules.now c.loop-y.invariant.1),
)

pub returns : goal.returns
returns c =
    record {
      has = λ z h l. c.loop-y.invariant.1.has z (omega (arith, h, c.class_start-start.ensures.0))
          (omega (arith, l, c.class_end-end.ensures.0, c.loop-y-test.false));
    }
