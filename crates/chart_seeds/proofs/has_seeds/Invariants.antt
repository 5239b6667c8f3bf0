-- No rule passed has parts that meet.
use Prim.Native.Nat.{ℕ, ◌-◌, ◌≤◌, ◌<◌}
use lib.ListN.{get_or}
use Rattle.chart_candidates.specs.PassedOver.{RuleApart}
use Rattle.chart_seeds.proofs.has_seeds.Given as goal

abbrev pub invariant-loop-y : goal.invariant-loop-y
invariant-loop-y l = (l.start ≤ l.y) × ((z : ℕ) → z < l.y → l.start ≤ z → RuleApart l.masks l.d l.rules l.c (get_or l.index z 0))

abbrev pub decreases-loop-y : goal.decreases-loop-y
decreases-loop-y l = l.end - l.y
