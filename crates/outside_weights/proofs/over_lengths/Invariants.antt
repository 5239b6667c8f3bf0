-- The loop is the iteration over lengths, the greatest first.
use mathlib.Core.Path.{◌≡◌}
use Prim.Native.Nat.{◌-◌, ◌≤◌}
use lib.ListN.{length}
use Rattle.packing.specs.Loop.{iter}
use Rattle.outside_entries.specs.Entries.{fourths, plain}
use Rattle.outside_theory.specs.Model.{over_spans}
use Rattle.outside_weights.proofs.over_lengths.Given as goal

abbrev pub invariant-loop-x : goal.invariant-loop-x
invariant-loop-x l = (l.x ≤ l.d.last) × (length l.t ≡ length l.initial.t) × (plain l.t ≡ plain l.initial.t)
    × (fourths l.t ≡ iter (λ u y. over_spans u (plain l.initial.t) l.rules l.index l.d (l.d.last - y)) (fourths l.initial.t) l.x)

abbrev pub decreases-loop-x : goal.decreases-loop-x
decreases-loop-x l = l.d.last - l.x
