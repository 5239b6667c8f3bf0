-- What is left of the rows, stored behind those that are, gives all. Assumes nothing.
use mathlib.Core.Path.{refl, sym, ◌∙◌}
use native.Mathlib.Omega.{arith}
use Rattle.grammar_conversion.proofs.Joined.{rows_start, rows_turn, rows_end}
use Rattle.grammar_conversion.proofs.join_marks.Goals as goal

pub loop-r-init : goal.loop-r-init
loop-r-init c = (refl, rows_start c.args.rules.now c.args.marks.now c.args.n c.args.joined.now)

pub loop-r-preserved : goal.loop-r-preserved
loop-r-preserved c = (
  c.join_rule.auto.joined ∙ c.loop-r.invariant.0,
  rows_turn c.args.rules.now c.args.marks.now c.args.n c.loop-r.r c.loop-r-test.true
      c.loop-r.joined c.join_rule.ensures ∙ c.loop-r.invariant.1,
)

pub returns : goal.returns
returns c =
    sym (rows_end c.args.rules.now c.args.marks.now c.args.n c.loop-r.r (omega (arith, c.loop-r-test.false))
    c.loop-r.joined) ∙ c.loop-r.invariant.1
