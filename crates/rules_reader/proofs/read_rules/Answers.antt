-- `rules_reader::read_rules` meets its contract: after each turn the rules read so far are those of the definition, and their
-- numbers and marks stand at the arrays' fronts. Assumes nothing.
use mathlib.Core.Path.{refl}
use native.Mathlib.Omega.{arith}
use borrow.Author.Rules.{rules}
use lib.Dec.{eqb}
use lib.ListN.{replicate, length-set}
use Rattle.rules_reader.specs.Rules.{filter_place}
use Rattle.rules_reader.proofs.Filter.{filters_none, filtered_more}
use Rattle.rules_reader.proofs.Turns.{none_passed, all_passed, rule_refused, rule_repeated, rule_passed}
use Rattle.rules_reader.proofs.read_rules.Goals as goal

pub loop-i-init : goal.loop-i-init
loop-i-init c = record {
  near = omega arith;
  read = none_passed _ _ _ _ _ _ _ _ _;
  filter = refl;
  filtered = filters_none eqb filter_place (replicate 1021 0);
}

pub returns-in_err-rule : goal.returns-in_err-rule
returns-in_err-rule c =
    rule_refused _ _ _ _ _ _ c.loop-i.invariant.read (omega arith) c.from_residual.result (search rules) c.in_err-rule.ensures.0

pub returns-then-repeated : goal.returns-then-repeated
returns-then-repeated c =
    rule_repeated _ _ _ _ _ _ c.loop-i.invariant.read (omega arith) c.in_ok-rule.rule c.in_ok-rule.ensures.0 (rw c.rule_key-key.ensures at c.repeated.ensures)
    c.if-repeated.true

pub loop-i-preserved : goal.loop-i-preserved
loop-i-preserved c =
    let p = c.loop-i.invariant in
    let passed = rule_passed _ _ _ _ _ _ p.read (omega arith) c.in_ok-rule.rule c.in_ok-rule.ensures.0
    (rw c.rule_key-key.ensures at c.repeated.ensures) c.if-repeated.false
    (omega arith) (omega arith) in
    record {
      near = omega (arith, c.in_ok-rule.ensures.1, p.near);
      read = rw (c.rule_key-key.ensures, c.store_rule.ensures) passed;
      filter = simp length-set p.filter;
      filtered = rw c.filter_place.ensures.0 (filtered_more _ _ _ _ (omega arith) (omega arith) p.filtered);
    }

pub returns : goal.returns
returns c = all_passed _ _ _ _ _ _ c.loop-i.invariant.read (omega arith) (omega (arith, c.loop-i.invariant.near)) (omega arith) (omega arith)
