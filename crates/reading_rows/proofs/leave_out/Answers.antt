-- What stands at the front is what is left of the walk so far.
use mathlib.Core.Path.{◌≡◌, refl, ◌∙◌}
use native.Mathlib.Omega.{arith}
use borrow.Author.Rules.{rules}
use lib.ListN.{length}
use lib.Seq.{take-length}
use Rattle.office_theory.specs.Matching.{without_marked}
use Rattle.reading_rows.proofs.Unmarked.{one_more, all_shown, further}
use Rattle.reading_rows.proofs.leave_out.Goals as goal

pub loop-rule-init : goal.loop-rule-init
unfolding without_marked
loop-rule-init c = record { within = omega arith; few = omega arith; kept = refl; front = refl; behind = refl }

pub show_rule-k-requires : goal.show_rule-k-requires
show_rule-k-requires c =
    let was = c.loop-rule.invariant in
    omega (arith, was.few, was.kept, c.loop-rule-test.true, c.requires)

pub loop-rule-preserved : goal.loop-rule-preserved
loop-rule-preserved c =
    let a = c.args in
    let was = c.loop-rule.invariant in
    let e = c.show_rule-k.ensures in
    record {
      within = omega (arith, c.loop-rule-test.true);
      few = omega (arith, e.1, was.few);
      kept = c.show_rule-k.auto.shown ∙ was.kept;
      front = one_more a.marks.now a.walk.now c.loop-rule.rule-index c.loop-rule.k c.show_rule-k.result c.loop-rule.shown c.show_rule-k.new.shown
          (omega (arith, c.loop-rule-test.true)) was.front e.2;
      behind = further c.loop-rule.k c.show_rule-k.result c.loop-rule.shown a.shown.now c.show_rule-k.new.shown e.0 was.behind e.3;
    }

pub returns : goal.returns
returns c =
    let a = c.args in
    let was = c.loop-rule.invariant in
    let e : c.loop-rule.rule-index ≡ length a.walk.now = omega (arith, was.within, c.loop-rule-test.false) in
    let front = rw (e, take-length) at was.front in (
      omega (arith, was.within, was.few),
      all_shown a.marks.now a.walk.now c.loop-rule.k a.shown.now c.loop-rule.shown (omega (arith, was.within, was.few, was.kept, c.requires)) front
          was.behind,
    )
