-- The cells that start before a place and end at the other are marked.
use mathlib.Core.Path.{◌≡◌}
use Prim.Native.Nat.{◌-◌, ◌≤◌}
use lib.ListN.{length}
use Rattle.found_masks.specs.Marks.{MarkedAll, EndingAt}
use Rattle.found_masks.proofs.mark_spans.Given as goal

abbrev pub invariant-loop-from : goal.invariant-loop-from
invariant-loop-from l = (l.from ≤ l.to) × (length l.masks ≡ length l.initial.masks)
    × MarkedAll l.t l.d (EndingAt l.d.symbols l.to l.from) l.initial.masks l.masks

abbrev pub decreases-loop-from : goal.decreases-loop-from
decreases-loop-from l = l.to - l.from
