-- The loop's state is that of the back trace, with the weight so far. Where a rank is not found or a node is wrong, the whole spells nothing.
use mathlib.Core.Path.{refl, ap, ◌∙◌}
use native.Mathlib.Omega.{arith}
use Rattle.std.specs.Prelude.{Some}
use Rattle.chart_keys.specs.Keys.{back_pointer}
use Rattle.chart_trace.proofs.Pending.{starts, descends, resumes, ends}
use Rattle.chart_trace.proofs.Spelled.{seen_as, not_found, wrong_node, leaf_node, pairing_node, no_tree, one_tree}
use Rattle.chart_trace.proofs.Weighing.{unweighed, spells_nothing, weighs_pair, weighs_leaf, weighs_last}
use Rattle.chart_trace.proofs.checked.trace_checked.Goals as goal

pub loop-scope-init : goal.loop-scope-init
loop-scope-init c = (
  refl,
  starts _ _ _ _ _ c.new-pending.ensures c.requires.0.order c.requires.0.last c.requires.1,
  unweighed _ _ _ _ _ _ c.new-pending.ensures,
)

pub returns-then-tree-eq0 : goal.returns-then-tree-eq0
returns-then-tree-eq0 c =
    no_tree _ _ _ _ _ _ _ c.requires.0.order _ (spells_nothing _ _ _ _ _ c.loop-scope.invariant.2
    (not_found _ _ _ _ _ _ _ c.loop-scope.invariant.1.order c.tree_of-tree.ensures.0 c.if-tree-eq0.true))

pub returns-in_err-first : goal.returns-in_err-first
returns-in_err-first c =
    rw c.from_residual.ensures (no_tree _ _ _ _ _ _ _ c.requires.0.order _ (spells_nothing _ _ _ _ _ c.loop-scope.invariant.2
    (wrong_node _ _ _ _ _ _ _ c.loop-scope.invariant.1.order c.tree_of-tree.ensures.0 c.if-tree-eq0.false
    (c.back_pointer-back.ensures.0 ∙ ap back_pointer c.tree_of-tree.ensures.1) c.checked_node.ensures.0 c.in_err-first.was)))

pub loop-scope-preserved-in-Pairing : goal.loop-scope-preserved-in-Pairing
loop-scope-preserved-in-Pairing c =
    let back = c.back_pointer-back.ensures.0 ∙ ap back_pointer c.tree_of-tree.ensures.1 in
    let is = c.in_ok-first.was ∙ ap Some c.in-Pairing.is in (
      c.store_node.auto.trace ∙ c.loop-scope.invariant.0,
      rw (c.left_part.ensures, c.store_node.ensures)
          (descends _ _ _ c.loop-scope.invariant.1 back c.back_pointer-back.ensures.1 c.requires.0.last
          (seen_as _ _ _ _ _ c.checked_node.ensures.0 is).2.1 refl c.push.ensures),
      rw c.left_part.ensures (weighs_pair _ _ _ _ _ c.loop-scope.invariant.2 c.back_pointer-back.result _ _
          (pairing_node _ _ _ _ _ _ _ c.loop-scope.invariant.1.order c.tree_of-tree.ensures.0 c.if-tree-eq0.false back c.checked_node.ensures.0 is)
          (rw is at c.checked_node.ensures.1) c.push.ensures),
    )

pub returns-in_default : goal.returns-in_default
returns-in_default c =
    let back = c.back_pointer-back.ensures.0 ∙ ap back_pointer c.tree_of-tree.ensures.1 in
    let is = c.in_ok-first.was ∙ ap Some c.in-Leaf.is in
    one_tree _ _ _ _ _ _ _ c.requires.0.order _ (weighs_last _ _ _ _ _ c.loop-scope.invariant.2
    (leaf_node _ _ _ _ _ _ _ c.loop-scope.invariant.1.order c.tree_of-tree.ensures.0 c.if-tree-eq0.false back c.checked_node.ensures.0 is)
    c.pop.ensures.0 c.in_default.is)
    (ends _ _ _ c.loop-scope.invariant.1 back (seen_as _ _ _ _ _ c.checked_node.ensures.0 is).3 refl c.pop.ensures.0 c.in_default.is
    c.store_node.ensures)

pub loop-scope-preserved : goal.loop-scope-preserved
loop-scope-preserved c =
    let back = c.back_pointer-back.ensures.0 ∙ ap back_pointer c.tree_of-tree.ensures.1 in
    let is = c.in_ok-first.was ∙ ap Some c.in-Leaf.is in (
      c.store_node.auto.trace ∙ c.loop-scope.invariant.0,
      rw c.store_node.ensures (resumes _ _ _ c.loop-scope.invariant.1 back (seen_as _ _ _ _ _ c.checked_node.ensures.0 is).3 refl
          c.requires.0.last c.pop.ensures.0 c.in-Some.is c.pop.ensures.1),
      weighs_leaf _ _ _ _ _ c.loop-scope.invariant.2
          (leaf_node _ _ _ _ _ _ _ c.loop-scope.invariant.1.order c.tree_of-tree.ensures.0 c.if-tree-eq0.false back c.checked_node.ensures.0 is)
          c.pop.ensures.0 c.in-Some.is c.pop.ensures.1 (rw is at c.checked_node.ensures.1),
    )
