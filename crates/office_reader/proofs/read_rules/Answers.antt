-- `office_reader::read_rules` meets its contract: the rules read so far stand in the sheet and in the filter, and what is left ends where all ends.
use mathlib.Core.Path.{refl, sym, ◌∙◌}
use native.Mathlib.Omega.{arith}
use borrow.Author.Rules.{rules}
use lib.ListN.{replicate, length-set}
use Rattle.office.specs.Sheet.{rule_alike}
use Rattle.office.specs.Flat.{behind_all, office_rules_at}
use Rattle.rules_reader.proofs.Filter.{filters_none}
use Rattle.office_reader.specs.Filter.{rule_place}
use Rattle.office_reader.proofs.Places.{filters_next}
use Rattle.office_reader.proofs.Passing.{stopped, rules_start, rules_stop, rules_repeat, rules_go_on, rule_end, rules_end}
use Rattle.office_reader.proofs.read_rules.Goals as goal

pub loop-i-init : goal.loop-i-init
unfolding behind_all office_rules_at
loop-i-init c =
    let a = c.args in
    record {
      here = refl;
      near = omega arith;
      left = rules_start a.sheet.now a.v.symbols a.v.words a.count;
      filter = refl;
      filtered = filters_none rule_alike rule_place (replicate 4093 0);
    }

pub returns-in_err-next : goal.returns-in_err-next
returns-in_err-next c =
    let l = c.loop-i in
    let a = c.args in
    let stop = rules_stop a.sheet.now a.v.symbols a.v.words a.count l.i l.at c.loop-i-test.true l.invariant.here c.in_err-next.ensures in
    stopped c.from_residual.result (search rules) (stop ∙ l.invariant.left)

pub repeated-requires : goal.repeated-requires
repeated-requires c =
    let place = c.rule_place-place.ensures in
    let l = c.loop-i in
    (omega arith, omega (arith, l.invariant.near), omega (arith, place.1, l.invariant.filter), place.0, l.invariant.filtered)

pub returns-then-repeated : goal.returns-then-repeated
returns-then-repeated c =
    let l = c.loop-i in
    let a = c.args in
    rules_repeat a.sheet.now a.v.symbols a.v.words a.count l.i l.at c.loop-i-test.true l.invariant.here
    a.v.ranges.some_symbol a.v.ranges.some_word c.in_ok-next.ensures (sym c.if-repeated.true ∙ c.repeated.ensures) ∙ l.invariant.left

pub bounds-filter-place : goal.bounds-filter-place
bounds-filter-place c = omega (arith, c.rule_place-place.ensures.1, c.loop-i.invariant.filter)

pub loop-i-preserved : goal.loop-i-preserved
loop-i-preserved c =
    let place = c.rule_place-place.ensures in
    let l = c.loop-i in
    let a = c.args in
    let end = rule_end a.sheet.now a.v.symbols a.v.words a.count l.i l.at c.loop-i-test.true l.invariant.here a.v.ranges.some_symbol
    a.v.ranges.some_word c.in_ok-next.ensures in
    record {
      here = end.0;
      near = omega (arith, end.1, l.invariant.near);
      left = rules_go_on a.sheet.now a.v.symbols a.v.words a.count l.i l.at c.loop-i-test.true l.invariant.here a.v.ranges.some_symbol
          a.v.ranges.some_word c.in_ok-next.ensures
          (sym c.if-repeated.false ∙ c.repeated.ensures) ∙ l.invariant.left;
      filter = simp length-set l.invariant.filter;
      filtered = filters_next a.sheet.now l.filter l.i l.at _ l.invariant.here place.0 (omega (arith, place.1, l.invariant.filter)) l.invariant.filtered;
    }

pub returns : goal.returns
returns c =
    let a = c.args in
    rules_end a.sheet.now a.v.symbols a.v.words a.count c.loop-i.i c.loop-i.at (omega arith) ∙ c.loop-i.invariant.left
