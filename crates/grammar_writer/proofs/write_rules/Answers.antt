-- What remains behind the first i rules is written from bit `at` on, and at the end nothing remains.
use Prim.Native.Nat.{◌+◌, ◌-◌}
use native.Mathlib.Nat.{sub-zero}
use native.Mathlib.Omega.{arith}
use Rattle.bits.proofs.Remaining.{all_remain, none_remain, some_written, some_within}
use Rattle.sheet_writer.specs.Arrays.{rules_fields}
use Rattle.grammar_writer.proofs.Rules.{rule_fields, rules_more, rules_end}
use Rattle.grammar_writer.proofs.write_rules.Goals as goal

pub loop-i-init : goal.loop-i-init
loop-i-init c = (omega arith, rw sub-zero all_remain)

pub write_marked-at-requires : goal.write_marked-at-requires
write_marked-at-requires c =
    let a = c.args in
    let f = a.form in
    let l = c.loop-i in
    let r = rule_fields f.marked f.symbols f.words a.rules.now a.marks.now f.rules l.i in
    let s = rules_fields f.marked f.symbols f.words a.rules.now a.marks.now (l.i + 1) (f.rules - (l.i + 1)) in
    let m = rw (rules_more f.marked f.symbols f.words a.rules.now a.marks.now f.rules l.i c.loop-i-test.true)
    at l.invariant.1 in
    rw (c.rule_at-rule.ensures, c.narrow_at.ensures)
    (omega (arith, l.invariant.0, c.requires.1), c.requires.2, omega (arith, some_within r s m, l.invariant.1.size, c.requires.3))

pub loop-i-preserved : goal.loop-i-preserved
loop-i-preserved c =
    let a = c.args in
    let f = a.form in
    let l = c.loop-i in
    let r = rule_fields f.marked f.symbols f.words a.rules.now a.marks.now f.rules l.i in
    let s = rules_fields f.marked f.symbols f.words a.rules.now a.marks.now (l.i + 1) (f.rules - (l.i + 1)) in
    let m = rw (rules_more f.marked f.symbols f.words a.rules.now a.marks.now f.rules l.i c.loop-i-test.true)
    at l.invariant.1 in
    let w = rw (c.rule_at-rule.ensures, c.narrow_at.ensures) at c.write_marked-at.ensures in
    (omega (arith, l.invariant.0, w.1), some_written r s m w.2 w.0)

pub returns : goal.returns
returns c =
    let a = c.args in
    let f = a.form in
    let l = c.loop-i in
    (none_remain (rw (rules_end f.marked f.symbols f.words a.rules.now a.marks.now f.rules l.i (omega arith)) at l.invariant.1)).1
