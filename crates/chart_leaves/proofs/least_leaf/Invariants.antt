-- The loop is the iteration over the edges that leave the cell's first place.
use Prim.Native.Nat.{◌≤◌, ◌-◌}
use mathlib.Core.Path.{◌≡◌}
use lib.ListN.{get_or}
use Rattle.packing.specs.Loop.{over}
use Rattle.chart_keys.specs.Keys.{key_number, no_key}
use Rattle.chart_candidates.specs.Candidates.{edge_leaves}
use Rattle.chart_leaves.proofs.least_leaf.Given as goal

abbrev pub invariant-loop-y : goal.invariant-loop-y
invariant-loop-y l = (l.start ≤ l.y) × (l.y - l.start ≤ l.end - l.start)
    × (key_number l.least ≡ over (λ x z. edge_leaves l.rules l.edges l.index l.c 0 x (get_or l.index z 0)) no_key l.start l.y)

abbrev pub decreases-loop-y : goal.decreases-loop-y
decreases-loop-y l = l.end - l.y
