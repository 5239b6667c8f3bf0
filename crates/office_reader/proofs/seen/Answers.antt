-- `office_reader::seen` meets its contract: the rule is alike one that is left where it is alike one at all.
use mathlib.Core.Path.{sym, ◌∙◌}
use Prim.Native.Nat.{◌*◌}
use native.Mathlib.Nat.{add_assoc}
use native.Mathlib.Omega.{arith}
use Rattle.office.specs.Flat.{count_at}
use Rattle.office_reader.proofs.Likeness.{among_start, among_found, among_on, among_end}
use Rattle.office_reader.proofs.seen.Goals as goal

pub loop-i-init : goal.loop-i-init
loop-i-init c = record { near = omega arith; left = among_start c.args.sheet.now c.args.at c.args.n }

pub returns-then-same_rule : goal.returns-then-same_rule
returns-then-same_rule c =
    let l = c.loop-i in
    sym (among_found c.args.sheet.now c.args.at c.args.n l._i l.p c.loop-i-test.true c.same_rule.ensures c.if-same_rule.true) ∙ l.invariant.left

pub loop-i-preserved : goal.loop-i-preserved
loop-i-preserved c =
    let l = c.loop-i in
    record {
      near = omega arith;
      left = rw (c.number_at.ensures.0, ← add_assoc l.p 3 (2 * count_at c.args.sheet.now l.p))
          (sym (among_on c.args.sheet.now c.args.at c.args.n l._i l.p c.loop-i-test.true c.same_rule.ensures c.if-same_rule.false) ∙ l.invariant.left);
    }

pub returns : goal.returns
returns c =
    let l = c.loop-i in
    sym (among_end c.args.sheet.now c.args.at c.args.n l._i l.p (omega arith)) ∙ l.invariant.left
