-- The cells of the heads so far are marked.
use mathlib.Core.Path.{◌≡◌}
use Prim.Native.Nat.{◌-◌, ◌≤◌}
use lib.ListN.{length}
use Rattle.found_masks.specs.Marks.{MarkedAll, OfSpan}
use Rattle.found_masks.proofs.mark_heads.Given as goal

abbrev pub invariant-loop-a : goal.invariant-loop-a
invariant-loop-a l = (l.a ≤ l.d.symbols) × (length l.masks ≡ length l.initial.masks) × MarkedAll l.t l.d (OfSpan l.from l.to l.a) l.initial.masks l.masks

abbrev pub decreases-loop-a : goal.decreases-loop-a
decreases-loop-a l = l.d.symbols - l.a
