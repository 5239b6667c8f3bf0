-- The mask has the heads of every edge so far.
use Prim.Native.Nat.{◌-◌, ◌≤◌}
use Rattle.chart_heads.specs.Heads.{HeadsBefore}
use Rattle.chart_heads.proofs.heads_over.Given as goal

abbrev pub invariant-loop-y : goal.invariant-loop-y
invariant-loop-y l = (l.start ≤ l.y) × HeadsBefore l.masks l.edges l.index l.start l.to l.y l.heads

abbrev pub decreases-loop-y : goal.decreases-loop-y
decreases-loop-y l = l.end - l.y
