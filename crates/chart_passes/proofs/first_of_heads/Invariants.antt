-- The loop is the iteration over the heads, which nothing changes from one live head to the next, and the masks cover the table at
-- each turn.
use Prim.Native.Nat.{◌≤◌, ◌-◌}
use mathlib.Core.Path.{◌≡◌}
use lib.ListN.{length}
use Rattle.packing.specs.Meaning.{symbol_of}
use Rattle.packing.specs.Loop.{iter}
use Rattle.chart_table.specs.Table.{cell}
use Rattle.chart_masks.specs.Masks.{Covers}
use Rattle.chart_heads.specs.Heads.{Ruled, Live}
use Rattle.chart_search.specs.Search.{next_of_span}
use Rattle.chart_passes.proofs.first_of_heads.Given as goal

abbrev pub invariant-loop-a : goal.invariant-loop-a
invariant-loop-a l =
    (l.a ≤ l.n) × (length l.t ≡ length l.initial.t) × (length l.masks ≡ length l.initial.masks) × Covers l.masks l.t l.d × Ruled l.rules l.index l.d l.masks
    × Live l.masks l.d l.span l.leafy l.live
    × (l.t ≡ iter (λ x a. next_of_span l.rules l.edges l.index l.d (l.span.to - l.span.from) x (cell (symbol_of a) l.span.from l.span.to) 0) l.initial.t l.a)

abbrev pub decreases-loop-a : goal.decreases-loop-a
decreases-loop-a l = l.n - l.a
