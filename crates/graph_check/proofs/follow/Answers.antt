-- Each way out is one of the run's: no rule fits, a pair rule does, a word rule does. Assumes nothing.
use mathlib.Core.Path.{sym, ap, ◌∙◌}
use mathlib.Core.Option.{some}
use native.Mathlib.Omega.{arith}
use Rattle.packing.specs.Flat.{rule_at, rules_of}
use Rattle.parse_stack.specs.Stack.{heads_of}
use Rattle.parse_stack.proofs.Fits.{pair_there, word_there}
use Rattle.graph_check.specs.Edges.{edges_of}
use Rattle.graph_check.proofs.Steps.{nothing_fits, pair_fits, word_fits}
use Rattle.graph_check.proofs.follow.Goals as goal

pub returns-in_err-rule : goal.returns-in_err-rule
returns-in_err-rule c =
    let a = c.args in
    let heads = heads_of a.stack.now a.at.height in
    rw c.from_residual.ensures (
      nothing_fits (rules_of a.rules.now a.count) (edges_of a.edges.now a.graph.edges) (rule_at a.rules.now a.node.rule) a.at.place a.at.left
          heads a.at.weight a.node.rule a.node.edge (sym c.in_err-rule.ensures),
      tt,
    )

pub pair_step-requires : goal.pair_step-requires
pair_step-requires c =
    let a = c.args in
    let fit = sym c.in_ok-rule.ensures ∙ ap some c.in-Pair.is in
    omega (arith, (pair_there (rules_of a.rules.now a.count) a.stack.now a.at.height a.node.rule fit).0)

pub edge_step-requires : goal.edge_step-requires
edge_step-requires c =
    let a = c.args in
    let fit = sym c.in_ok-rule.ensures ∙ ap some c.in-Word.is in
    omega (arith, (word_there (rules_of a.rules.now a.count) a.stack.now a.at.height a.node.rule fit).0)

pub returns-in-Pair : goal.returns-in-Pair
returns-in-Pair c =
    let a = c.args in
    let fit = sym c.in_ok-rule.ensures ∙ ap some c.in-Pair.is in
    let goes = pair_fits a.rules.now a.count (edges_of a.edges.now a.graph.edges) a.stack.now a.at a.node.rule a.node.edge fit in
    (c.pair_step.ensures.0 ∙ sym goes, c.pair_step.ensures.1)

pub returns-in-Word : goal.returns-in-Word
returns-in-Word c =
    let a = c.args in
    let fit = sym c.in_ok-rule.ensures ∙ ap some c.in-Word.is in
    let goes = word_fits a.rules.now a.count (edges_of a.edges.now a.graph.edges) a.stack.now a.at a.node.rule a.node.edge
    (omega arith) fit in
    (c.edge_step.ensures.0 a.stack.now ∙ sym goes, c.edge_step.ensures.1)
