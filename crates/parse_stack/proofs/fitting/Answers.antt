-- Each way out is the one that the tests on the stack, on the number and on the rule's head choose.
use mathlib.Core.Path.{sym, ap, ◌∙◌}
use mathlib.Core.Option.{some}
use native.Mathlib.Omega.{arith}
use borrow.Author.Rules.{rules}
use Rattle.packing.specs.Flat.{rules_of}
use Rattle.packing.proofs.Flat.{rule_of, no_rule_of}
use Rattle.parse_stack.specs.Stack.{heads_of}
use Rattle.parse_stack.proofs.Heads.{no_part, no_rule, found}
use Rattle.parse_stack.proofs.fitting.Goals as goal
use Rattle.parse_stack.proofs.fitting.Goals.{then-height-eq0-via-then-height-eq0, then-height-eq0-via-else-height-eq0+then-count-r}

pub returns-then-height-eq0 : goal.returns-then-height-eq0
returns-then-height-eq0 c =
    let a = c.args in
    elim c.then-height-eq0.branch [
      | then-height-eq0-via-then-height-eq0 w ↦ no_part (rules_of a.rules.now a.count) a.stack.now a.height a.r w.if-height-eq0.true
      | then-height-eq0-via-else-height-eq0+then-count-r w ↦ no_rule (rules_of a.rules.now a.count) (heads_of a.stack.now a.height) a.r
          (no_rule_of a.rules.now 0 a.count a.r w.if-count-r.true)
    ]

pub returns : goal.returns
returns c =
    let a = c.args in
    let there = rule_of a.rules.now a.count a.r c.if-count-r.false ∙ ap some (sym c.rule_at-rule.ensures) in
    let fit = found (rules_of a.rules.now a.count) a.stack.now a.height a.r (omega arith) there in
    rw (← fit) (search rules)
