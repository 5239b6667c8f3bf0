-- The weights compared are the tree's for high costs and the first for mixed costs.
use borrow.Author.Rules.{rules}
use lib.ListN.{length}
use Rattle.packing.specs.Flat.{nodes_in}
use Rattle.cost_ranges.proofs.PassesAnswer.{least_told}
use Rattle.cost_ranges.proofs.has_least.Goals as goal

pub raise_own-own-requires : goal.raise_own-own-requires
raise_own-own-requires c = c.requires.1

pub first_weight-least-requires : goal.first_weight-least-requires
first_weight-least-requires c = c.requires.0

pub returns : goal.returns
returns c =
    let a = c.args in
    let raised = c.raise_own-own.ensures in
    let pass = c.first_weight-least.ensures in
    let told = least_told a.rules.now (nodes_in a.rules.now a.trace.now) a.high.now a.costs.now a.pass (length a.work.now)
    raised.costs_after raised.value pass.work_after pass.value c.wide.ensures.0 in
    record { value = told.0; work_after = told.1 }
