-- The loop is the iteration over the members of the head's class.
use Prim.Native.Nat.{◌≤◌, ◌-◌}
use mathlib.Core.Path.{◌≡◌}
use lib.ListN.{get_or}
use Rattle.packing.specs.Loop.{over}
use Rattle.packing.specs.Flat.{rule_at}
use Rattle.chart_keys.specs.Keys.{key_number}
use Rattle.chart_candidates.specs.Candidates.{word_leaf}
use Rattle.chart_leaves.proofs.edge_leaves.Given as goal

abbrev pub invariant-loop-y : goal.invariant-loop-y
invariant-loop-y l = (l.start ≤ l.y) × (l.y - l.start ≤ l.end - l.start)
    × (key_number l.so_far
    ≡ over (λ x z. word_leaf l.edges l.e (key_number l.floor) x (get_or l.index z 0) (rule_at l.rules (get_or l.index z 0)))
    (key_number l.initial.so_far) l.start l.y)

abbrev pub decreases-loop-y : goal.decreases-loop-y
decreases-loop-y l = l.end - l.y
