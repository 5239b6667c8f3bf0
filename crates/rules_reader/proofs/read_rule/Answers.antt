-- `rules_reader::read_rule` meets its contract: the five numbers and then the mark, as the definition has them. Assumes nothing.
use native.Mathlib.Omega.{arith}
use borrow.Author.Rules.{rules}
use Rattle.packing.specs.Grammar.{marked_rule_from}
use Rattle.rules_reader.proofs.Fields.{mark_taken}
use Rattle.rules_reader.proofs.read_rule.Goals as goal

pub returns : goal.returns
unfolding marked_rule_from
returns c =
    let m = mark_taken _ _ c.args.form.marked c.in-Ok.ensures in
    (search rules, omega (arith, c.in_ok-rule.ensures.1, m))
