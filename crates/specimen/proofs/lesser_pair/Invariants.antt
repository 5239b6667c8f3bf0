-- The loop is the definition's, turn by turn. Assumes nothing.
use mathlib.Core.Path.{◌≡◌}
use Prim.Native.Nat.{◌+◌, ◌-◌, ◌≤◌}
use Rattle.packing.specs.Loop.{iter}
use Rattle.specimen.specs.Table.{lesser_split}
use Rattle.specimen.proofs.lesser_pair.Given as goal

abbrev pub invariant-loop-y : goal.invariant-loop-y
invariant-loop-y l =
    (l.y ≤ l.len - 1) × (l.lesser ≡ iter (λ x k. lesser_split l.table l.len l.b l.c (k + 1) x) l.initial.lesser l.y)

abbrev pub decreases-loop-y : goal.decreases-loop-y
decreases-loop-y l = l.len - 1 - l.y
