-- Each number so far has the head in its mask, and nothing is taken from a mask.
use mathlib.Core.Path.{◌≡◌}
use Prim.Native.Nat.{◌-◌, ◌≤◌}
use lib.ListN.{length}
use Rattle.chart_classes.specs.Classes.{class_start}
use Rattle.chart_heads.specs.Heads.{MembersMore}
use Rattle.chart_heads.proofs.mark_head.Given as goal

abbrev pub invariant-loop-y : goal.invariant-loop-y
invariant-loop-y l =
    (l.start ≤ l.y) × (l.start ≡ class_start l.index l.column.base l.head) × (length l.masks ≡ length l.initial.masks)
    × MembersMore l.rules l.index l.column l.head l.y l.initial.masks l.masks

abbrev pub decreases-loop-y : goal.decreases-loop-y
decreases-loop-y l = l.end - l.y
