-- The masks have the numbers of every head so far.
use mathlib.Core.Path.{◌≡◌}
use Prim.Native.Nat.{◌-◌, ◌≤◌}
use lib.ListN.{length}
use Rattle.chart_heads.specs.Heads.{Grown, Members}
use Rattle.chart_heads.proofs.mark_heads.Given as goal

abbrev pub invariant-loop-head : goal.invariant-loop-head
invariant-loop-head l =
    (l.head ≤ l.n) × (length l.masks ≡ length l.initial.masks) × Members l.rules l.index l.column l.head l.masks × Grown l.initial.masks l.masks

abbrev pub decreases-loop-head : goal.decreases-loop-head
decreases-loop-head l = l.n - l.head
