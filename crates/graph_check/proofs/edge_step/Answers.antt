-- The edge's cost, if it has one, is what the run takes, and the edge's end is where the path then stands. Assumes nothing.
use mathlib.Core.Path.{sym}
use Prim.Native.Nat.{◌+◌, ◌-◌}
use native.Mathlib.Omega.{arith}
use Rattle.parse_stack.specs.Stack.{heads_of}
use Rattle.graph_check.proofs.Edges.{not_taken, taken, edge_there}
use Rattle.graph_check.proofs.edge_step.Goals as goal

pub returns-in_err-cost : goal.returns-in_err-cost
returns-in_err-cost c =
    let a = c.args in
    let e = sym c.in_err-cost.ensures.0 in
    rw c.from_residual.ensures
    (λ stack. sym (not_taken a.word a.at.place (a.at.left - 1) (heads_of stack (a.at.height - 1)) (a.at.weight + a.weight) _ e), tt)

pub returns : goal.returns
returns c =
    let a = c.args in
    let e = sym c.in_ok-cost.ensures.0 in
    let there = edge_there a.word a.at.place a.edges.now a.count a.edge e in (
      λ stack. rw (c.number_at.ensures.0, c.wide.ensures.0, there)
          (sym (taken a.word a.at.place (a.at.left - 1) (heads_of stack (a.at.height - 1)) (a.at.weight + a.weight) _ _ _ _ _ (rw there at e))),
      omega (arith, c.in_ok-cost.ensures.1, c.wide.ensures.1, c.number_at.ensures.1),
    )
