-- What the numbers that are left say is raised and weighed in the turns to come, and at the end nothing is left.
use Rattle.std.proofs.Common.{◌∙◌, ap, ℕ, length, length-append}
use native.Mathlib.Omega.{arith}
use borrow.Author.Rules.{rules}
use Rattle.rising_costs.proofs.Raise.{next_remain, none_remain}
use Rattle.rising_costs.proofs.raise_own.Goals as goal

pub loop-node-preserved : goal.loop-node-preserved
loop-node-preserved c =
    let a = c.args in
    let was = c.loop-node.invariant in
    let e = c.raise_node-own.ensures in
    let (size, (cut, two), _) = (c.in-Some.ensures).steps in
    record {
      can_next = omega arith;
      finite = tt;
      size = size ∙ was.size;
      small = omega (arith, e.value.1, ap length cut, length-append {A = ℕ});
      kept = c.raise_node-own.auto.costs ∙ was.kept;
      remains = next_remain _ _ _ _ _ _ _ cut (two ∙ was.size) e.costs_after e.value.0 was.remains;
    }

pub returns : goal.returns
returns c =
    let all = none_remain _ _ _ _ c.loop-node.node-iterator.rest.now (omega (arith, (c.in-None.ensures).steps)) c.loop-node.invariant.remains in
    record { costs_after = all.0; value = all.1 }
