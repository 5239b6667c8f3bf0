-- What was added up and what the rules behind the first i take is what all of them take, whatever their marks.
use native.Mathlib.Nat.{sub-zero}
use native.Mathlib.Omega.{arith}
use lib.ListN.{get_or}
use Rattle.bits.specs.Fields.{widths}
use Rattle.grammar_writer.proofs.Rules.{widths_more, rules_end}
use Rattle.grammar_writer.proofs.rules_bits.Goals as goal

pub loop-i-init : goal.loop-i-init
loop-i-init c = (omega arith, λ marks. rw sub-zero (omega arith))

pub loop-i-preserved : goal.loop-i-preserved
loop-i-preserved c =
    let a = c.args in
    let l = c.loop-i in
    let f = a.form in (
      omega arith,
      λ marks.
          let e = rw c.rule_at.ensures at (c.marked_bits-total.ensures.0 (get_or marks l.i 0)) in
          let m = widths_more f.marked f.symbols f.words a.rules.now marks f.rules l.i c.loop-i-test.true in
          omega (arith, e, m, l.invariant.1 marks),
    )

pub returns : goal.returns
unfolding widths
returns c =
    let a = c.args in
    let l = c.loop-i in
    let f = a.form in (
      λ marks. omega (arith, rw (rules_end f.marked f.symbols f.words a.rules.now marks f.rules l.i (omega arith)) at (l.invariant.1 marks)),
      omega arith,
    )
