-- After i nodes the numbers and the stack hold the state that the run has come to, with no more parts than edges are left, and the rule
-- numbers of the nodes stand in front.
use mathlib.Core.Path.{refl, sym, ◌∙◌}
use mathlib.Core.List.{List}
use Prim.Native.Nat.{ℕ, ◌-◌, ◌*◌, ◌≤◌, ◌<◌}
use native.Mathlib.Nat.{sub-zero}
use native.Mathlib.Omega.{arith}
use borrow.Author.Tests.{eq-eqb, ne_eqb}
use lib.ListN.{take, drop, length}
use lib.Seq.{length-take-le}
use Rattle.std.proofs.Common.{Some}
use Rattle.packing.specs.declared.Rule as R
use Rattle.packing.specs.Meaning.{Edge}
use Rattle.packing.specs.Source.{bytes}
use Rattle.packing.specs.Flat.{rules_of, rule_at}
use Rattle.packing.proofs.Flat.{by_rule}
use Rattle.derivation.specs.Path.{State, path_weight}
use Rattle.parse_stack.specs.Stack.{heads_of, standing}
use Rattle.parse_stack.proofs.Heads.{chosen}
use Rattle.graph_check.specs.Edges.{edges_of}
use Rattle.graph_check.proofs.Kept.{kept_none, kept_more, kept_all, kept_either}
use Rattle.graph_check.proofs.Steps.{not_read, read_on, read_lost, all_read, at_end}
use Rattle.graph_check.proofs.weight_of.Goals as goal
use Rattle.graph_check.proofs.weight_of.Goals.{then-at-eq0, else-at-eq0}

pub loop-number-init : goal.loop-number-init
unfolding path_weight heads_of
loop-number-init c =
    let a = c.args in (
      refl,
      omega arith,
      omega arith,
      omega arith,
      omega arith,
      omega arith,
      rw sub-zero,
      kept_none (rules_of a.rules.now a.count) (bytes 31 a.block.now) (2 * a.n - 1) (take (2 * a.n - 1) a.walk.now) 34,
    )

pub returns-in_err-node : goal.returns-in_err-node
returns-in_err-node c =
    let a = c.args in
    let l = c.loop-number in
    let rules : List R.Rule = rules_of a.rules.now a.count in
    let es : List Edge = edges_of a.edges.now a.graph.edges in
    let from : State = standing l.stack (Some l.at) in
    let long = length-take-le (2 * a.n - 1) a.walk.now (omega arith) in
    let more : l.number-index < 2 * a.n - 1 = omega arith in
    let (n, p) = c.in_err-node.ensures in
    rw c.from_residual.ensures
    (not_read rules es (bytes 31 a.block.now) a.graph.last (2 * a.n - 1) l.number-index from l.bit more p ∙ l.invariant.6, tt)

pub returns-in_err-at : goal.returns-in_err-at
returns-in_err-at c =
    let a = c.args in
    let l = c.loop-number in
    let rules : List R.Rule = rules_of a.rules.now a.count in
    let es : List Edge = edges_of a.edges.now a.graph.edges in
    let from : State = standing l.stack (Some l.at) in
    let long = length-take-le (2 * a.n - 1) a.walk.now (omega arith) in
    let more : l.number-index < 2 * a.n - 1 = omega arith in
    let read = c.in_ok-node.ensures in
    rw c.from_residual-in_err-at.ensures (
      read_lost rules es (bytes 31 a.block.now) a.graph.last (2 * a.n - 1) l.number-index from l.bit more _ read.0 c.in_err-at.ensures.0
          ∙ l.invariant.6,
      tt,
    )

pub loop-number-preserved : goal.loop-number-preserved
loop-number-preserved c =
    let a = c.args in
    let l = c.loop-number in
    let rules : List R.Rule = rules_of a.rules.now a.count in
    let es : List Edge = edges_of a.edges.now a.graph.edges in
    let from : State = standing l.stack (Some l.at) in
    let long = length-take-le (2 * a.n - 1) a.walk.now (omega arith) in
    let more : l.number-index < 2 * a.n - 1 = omega arith in
    let room : l.number-index < length l.number-items = omega arith in
    let read = c.in_ok-node.ensures in
    let further = c.in_ok-at.ensures.1 in
    let x = c.in_ok-node.node in
    let goes = read_on rules es (bytes 31 a.block.now) a.graph.last (2 * a.n - 1) l.number-index from l.bit more read.0 c.in_ok-at.ensures.0 in
    let keeps = kept_more rules (bytes 31 a.block.now) (2 * a.n - 1) l.number-items l.number-index l.bit more room read.0
    (by_rule (rule_at a.rules.now x.rule) x.rule x.edge) in (
      c.follow.auto.stack ∙ l.invariant.0,
      omega arith,
      omega arith,
      omega arith,
      omega arith,
      omega (arith, read.1),
      goes ∙ l.invariant.6,
      keeps ∙ l.invariant.7,
    )

pub returns : goal.returns
returns c =
    let a = c.args in
    let l = c.loop-number in
    let rules : List R.Rule = rules_of a.rules.now a.count in
    let es : List Edge = edges_of a.edges.now a.graph.edges in
    let from : State = standing l.stack (Some l.at) in
    let long = length-take-le (2 * a.n - 1) a.walk.now (omega arith) in
    let done : 2 * a.n - 1 ≤ l.number-index = omega arith in
    let ended : l.number-index ≤ 2 * a.n - 1 = omega arith in
    let over = all_read rules es (bytes 31 a.block.now) a.graph.last (2 * a.n - 1) l.number-index from l.bit done in
    let end = at_end l.stack l.at a.graph.last l.invariant.1 in
    let all = sym l.invariant.7 ∙ kept_all rules (bytes 31 a.block.now) (2 * a.n - 1) l.number-items l.number-index l.bit done ended in
    let short : 2 * a.n - 1 ≤ length l.number-items = omega arith in
    let rest : List ℕ = drop (2 * a.n - 1) a.walk.now in
    elim c.if-at-eq0.branch [
      | then-at-eq0 w ↦ let e = rw (eq-eqb l.at.left 0 w.if-at-eq0.true) at end in rw (c.then_some.ensures, w.then_some-is)
          (chosen _ _ ∙ sym e ∙ sym over ∙ l.invariant.6, kept_either rules a.block.now (2 * a.n - 1) l.number-items rest _ _ l.bit short all)
      | else-at-eq0 w ↦ let z = ne_eqb l.at.left 0 w.if-at-eq0.false in let e = rw z at end in rw (c.then_some.ensures, w.then_some-is, z)
          (sym e ∙ sym over ∙ l.invariant.6, tt)
    ]
