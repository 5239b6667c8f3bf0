-- The nodes of the numbers that are left are marked in the turns to come, and at the end nothing is left.
use Rattle.std.proofs.Common.{◌∙◌}
use native.Mathlib.Omega.{arith}
use borrow.Author.Rules.{rules}
use Rattle.word_margins.proofs.Marked.{next_used, none_used}
use Rattle.word_margins.proofs.use_nodes.Goals as goal

pub loop-node-preserved : goal.loop-node-preserved
loop-node-preserved c =
    let was = c.loop-node.invariant in
    let (size, (cut, two), _) = (c.in-Some.ensures).steps in
    record {
      can_next = omega arith;
      finite = tt;
      size = size ∙ was.size;
      kept = c.use_node.auto.used ∙ was.kept;
      remains = next_used _ _ _ _ _ cut (two ∙ was.size) c.use_node.ensures was.remains;
    }

pub returns : goal.returns
returns c = none_used _ c.loop-node.node-iterator.rest.now _ (omega (arith, (c.in-None.ensures).steps)) c.loop-node.invariant.remains
