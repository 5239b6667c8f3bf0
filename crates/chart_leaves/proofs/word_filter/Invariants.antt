-- The filter has the word of every rule so far.
use Prim.Native.Nat.{◌-◌, ◌≤◌}
use Rattle.chart_candidates.specs.PassedOver.{WordsBefore}
use Rattle.chart_leaves.proofs.word_filter.Given as goal

abbrev pub invariant-loop-y : goal.invariant-loop-y
invariant-loop-y l = (l.start ≤ l.y) × WordsBefore l.rules l.index l.start l.y l.filter

abbrev pub decreases-loop-y : goal.decreases-loop-y
decreases-loop-y l = l.end - l.y
