-- `office_reader::same_items` meets its contract: items that are left are alike where all are.
use mathlib.Core.Path.{sym, ◌∙◌}
use native.Mathlib.Omega.{arith}
use Rattle.office_reader.proofs.Likeness.{alike_start, alike_here, unlike_here, alike_end}
use Rattle.office_reader.proofs.same_items.Goals as goal

pub loop-i-init : goal.loop-i-init
loop-i-init c = alike_start c.args.sheet.now c.args.p c.args.q c.args.n

pub loop-i-preserved : goal.loop-i-preserved
loop-i-preserved c =
    let a = c.args in
    sym (alike_here a.sheet.now a.p a.q a.n c.loop-i.i c.loop-i-test.true c.same_item.ensures c.if-not-same_item.false) ∙ c.loop-i.invariant

pub returns-then-not-same_item : goal.returns-then-not-same_item
returns-then-not-same_item c =
    let a = c.args in
    sym (unlike_here a.sheet.now a.p a.q a.n c.loop-i.i c.loop-i-test.true c.same_item.ensures c.if-not-same_item.true) ∙ c.loop-i.invariant

pub returns : goal.returns
returns c =
    let a = c.args in
    sym (alike_end a.sheet.now a.p a.q a.n c.loop-i.i (omega arith)) ∙ c.loop-i.invariant
