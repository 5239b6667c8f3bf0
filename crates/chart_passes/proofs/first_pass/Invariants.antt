-- The loop is the iteration over the lengths.
use Prim.Native.Nat.{◌+◌, ◌≤◌, ◌-◌}
use mathlib.Core.Path.{◌≡◌}
use lib.ListN.{length}
use Rattle.packing.specs.Loop.{iter}
use Rattle.chart_masks.specs.Masks.{Covers}
use Rattle.chart_heads.specs.Heads.{Ruled}
use Rattle.chart_search.specs.Search.{first_of_length}
use Rattle.chart_passes.proofs.first_pass.Given as goal

abbrev pub invariant-loop-x : goal.invariant-loop-x
invariant-loop-x l =
    (l.x ≤ l.n) × (length l.t ≡ length l.initial.t) × (length l.masks ≡ length l.initial.masks) × Covers l.masks l.t l.d × Ruled l.rules l.index l.d l.masks
    × (l.t ≡ iter (λ u y. first_of_length l.rules l.edges l.index l.d u (y + 1)) l.initial.t l.x)

abbrev pub decreases-loop-x : goal.decreases-loop-x
decreases-loop-x l = l.n - l.x
