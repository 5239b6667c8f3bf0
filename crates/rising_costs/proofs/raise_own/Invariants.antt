-- What the numbers that are left say is raised and weighed in the turns to come, and at the end nothing is left.
use Rattle.std.proofs.Common.{◌≡◌, ◌+◌, ◌*◌, ◌≤◌, ◌<◌, length}
use Rattle.packing.specs.Flat.{nodes_in}
use Rattle.rising_costs.proofs.Raise.{Remains}
use Rattle.rising_costs.proofs.raise_own.Given as goal

abbrev pub invariant-loop-node : goal.invariant-loop-node
invariant-loop-node l = record {
  can_next : (goal.iterator-loop-node).can_next l.node-iterator;
  finite : (goal.iterator-loop-node).is_finite l.node-iterator;
  size : l.node-iterator.size ≡ 2;
  small : l.own + 4294967296 * length l.node-iterator.rest.now ≤ 4294967296 * length l.trace;
  kept : length l.costs ≡ length l.initial.costs;
  remains : Remains l.rules l.high (nodes_in l.rules l.trace) l.initial.costs l.node-iterator.rest.now l.costs l.own;
}
