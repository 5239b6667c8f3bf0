-- The loop is the iteration over the places between the node's ends.
use mathlib.Core.Path.{◌≡◌}
use Prim.Native.Nat.{◌+◌, ◌-◌, ◌≤◌}
use lib.ListN.{length}
use Rattle.packing.specs.Loop.{iter}
use Rattle.chart_table.specs.Table.{cell, cell_number}
use Rattle.outside_entries.specs.Entries.{fourths, plain, push_split}
use Rattle.outside_weights.proofs.push_splits.Given as goal

abbrev pub invariant-loop-x : goal.invariant-loop-x
invariant-loop-x l = (l.x ≤ l.node.to - l.node.from - 1) × (length l.t ≡ length l.initial.t) × (plain l.t ≡ plain l.initial.t)
    × (fourths l.t ≡ iter (λ u y. push_split u (plain l.initial.t) l.d (cell_number l.d (cell l.first l.node.from (l.node.from + y + 1)))
    (cell_number l.d (cell l.second (l.node.from + y + 1) l.node.to)) l.around) (fourths l.initial.t) l.x)

abbrev pub decreases-loop-x : goal.decreases-loop-x
decreases-loop-x l = l.node.to - l.node.from - 1 - l.x
