-- The loop is the iteration over the members of the head's class. What is found so far is no more than what was before, so a rule
-- that is passed over changes nothing.
use Prim.Native.Nat.{◌≤◌, ◌-◌}
use mathlib.Core.Path.{◌≡◌}
use lib.ListN.{get_or}
use Rattle.packing.specs.Loop.{over}
use Rattle.packing.specs.Flat.{rule_at}
use Rattle.chart_keys.specs.Keys.{key_number}
use Rattle.chart_candidates.specs.Candidates.{rule_seeds}
use Rattle.chart_seeds.proofs.seeds.Given as goal

abbrev pub invariant-loop-y : goal.invariant-loop-y
invariant-loop-y l = (l.start ≤ l.y) × (l.y - l.start ≤ l.end - l.start)
    × (key_number l.so_far
    ≡ over (λ x z. rule_seeds l.t l.d l.c (key_number l.floor) x (get_or l.index z 0) (rule_at l.rules (get_or l.index z 0)))
    (key_number l.initial.so_far) l.start l.y)

abbrev pub decreases-loop-y : goal.decreases-loop-y
decreases-loop-y l = l.end - l.y
