-- The loop is the iteration over the class of the node's head.
use mathlib.Core.Path.{◌≡◌}
use Prim.Native.Nat.{◌-◌, ◌≤◌}
use lib.ListN.{length, get_or}
use Rattle.packing.specs.Loop.{over}
use Rattle.packing.specs.Flat.{rule_at}
use Rattle.outside_entries.specs.Entries.{fourths, plain}
use Rattle.outside_theory.specs.Model.{push_rule}
use Rattle.outside_weights.proofs.push_rules.Given as goal

abbrev pub invariant-loop-y : goal.invariant-loop-y
invariant-loop-y l = (l.start ≤ l.y) × (l.y - l.start ≤ l.end - l.start) × (length l.t ≡ length l.initial.t) × (plain l.t ≡ plain l.initial.t)
    × (fourths l.t ≡ over (λ u z. push_rule u (plain l.initial.t) l.d l.node l.outer (rule_at l.rules (get_or l.index z 0))) (fourths l.initial.t) l.start l.y)

abbrev pub decreases-loop-y : goal.decreases-loop-y
decreases-loop-y l = l.end - l.y
