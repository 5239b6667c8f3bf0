-- The rule's kind decides whether the node is a leaf.
use native.Mathlib.Omega.{arith}
use Rattle.rising_costs.proofs.Raise.{pair_node, word_node}
use Rattle.rising_costs.proofs.raise_node.Goals as goal

pub returns-in-Pair : goal.returns-in-Pair
returns-in-Pair c =
    let a = c.args in
    let (kept, weighs) = pair_node a.rules.now a.high.now a.costs.now a.rule a.edge c.rule_at.ensures c.wide.ensures.0
    c.in-Pair.is c.wide-in-Pair.ensures.0 in
    record { costs_after = kept; value = (weighs, omega (arith, c.wide-in-Pair.ensures.1)) }

pub returns-in-Word : goal.returns-in-Word
returns-in-Word c =
    let a = c.args in
    let (raised, weighs) = word_node a.rules.now a.high.now a.costs.now a.rule a.edge c.rule_at.ensures
    c.wide.ensures.0 c.in-Word.is c.wide-in-Word.ensures.0
    c.narrow_at-cost.ensures c.store.ensures c.wide-in-Word-2.ensures.0 c.wide-in-Word-3.ensures.0 in
    record { costs_after = raised; value = (weighs, omega (arith, c.wide-in-Word-2.ensures.1, c.wide-in-Word-3.ensures.1)) }
