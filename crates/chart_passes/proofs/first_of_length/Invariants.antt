-- The loop is the iteration over the places that a span can start at.
use Prim.Native.Nat.{◌+◌, ◌≤◌, ◌-◌}
use mathlib.Core.Path.{◌≡◌}
use lib.ListN.{length}
use Rattle.packing.specs.Loop.{iter}
use Rattle.chart_masks.specs.Masks.{Covers}
use Rattle.chart_heads.specs.Heads.{Ruled}
use Rattle.chart_search.specs.Search.{first_of_heads}
use Rattle.chart_passes.proofs.first_of_length.Given as goal

abbrev pub invariant-loop-i : goal.invariant-loop-i
invariant-loop-i l =
    (l.i ≤ l.m) × (length l.t ≡ length l.initial.t) × (length l.masks ≡ length l.initial.masks) × Covers l.masks l.t l.d × Ruled l.rules l.index l.d l.masks
    × (l.t ≡ iter (λ x i. first_of_heads l.rules l.edges l.index l.d x i (i + l.len)) l.initial.t l.i)

abbrev pub decreases-loop-i : goal.decreases-loop-i
decreases-loop-i l = l.m - l.i
