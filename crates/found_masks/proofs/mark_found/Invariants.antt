-- The cells that end up to a place are marked.
use mathlib.Core.Path.{◌≡◌}
use Prim.Native.Nat.{◌-◌, ◌≤◌}
use lib.ListN.{length}
use Rattle.found_masks.specs.Marks.{MarkedAll, UpTo}
use Rattle.found_masks.proofs.mark_found.Given as goal

abbrev pub invariant-loop-x : goal.invariant-loop-x
invariant-loop-x l = (l.x ≤ l.d.last) × (length l.masks ≡ length l.initial.masks) × MarkedAll l.t l.d (UpTo l.d.symbols l.x) l.initial.masks l.masks

abbrev pub decreases-loop-x : goal.decreases-loop-x
decreases-loop-x l = l.d.last - l.x
