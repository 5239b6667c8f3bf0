-- The loop is the iteration over the edges that leave the cell's first place, with no turn where there is none.
use Prim.Native.Nat.{◌≤◌, ◌-◌}
use mathlib.Core.Path.{◌≡◌}
use lib.ListN.{get_or}
use Rattle.packing.specs.Loop.{over}
use Rattle.chart_keys.specs.Keys.{key_number}
use Rattle.chart_candidates.specs.Candidates.{edge_leaves}
use Rattle.chart_leaves.proofs.leaves.Given as goal

abbrev pub invariant-loop-y : goal.invariant-loop-y
invariant-loop-y l = (l.start ≤ l.y) × (l.y - l.start ≤ l.end - l.start)
    × (key_number l.so_far
    ≡ over (λ x z. edge_leaves l.rules l.edges l.index l.c (key_number l.floor) x (get_or l.index z 0)) (key_number l.initial.so_far) l.start l.y)

abbrev pub decreases-loop-y : goal.decreases-loop-y
decreases-loop-y l = l.end - l.y
