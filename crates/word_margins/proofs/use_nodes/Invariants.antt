-- The nodes of the numbers that are left are marked in the turns to come, and at the end nothing is left.
use Rattle.std.proofs.Common.{◌≡◌, length}
use Rattle.packing.specs.Flat.{nodes_in}
use Rattle.word_margins.specs.Model.{use_nodes}
use Rattle.word_margins.proofs.use_nodes.Given as goal

abbrev pub invariant-loop-node : goal.invariant-loop-node
invariant-loop-node l = record {
  can_next : (goal.iterator-loop-node).can_next l.node-iterator;
  finite : (goal.iterator-loop-node).is_finite l.node-iterator;
  size : l.node-iterator.size ≡ 2;
  kept : length l.used ≡ length l.initial.used;
  remains : use_nodes l.used (nodes_in l.rules l.node-iterator.rest.now) ≡ use_nodes l.initial.used (nodes_in l.rules l.trace);
}
