-- The loop is the iteration over the places where a span of the length may start.
use mathlib.Core.Path.{◌≡◌}
use Prim.Native.Nat.{◌+◌, ◌-◌, ◌≤◌}
use lib.ListN.{length}
use Rattle.packing.specs.Loop.{iter}
use Rattle.outside_entries.specs.Entries.{fourths, plain}
use Rattle.outside_theory.specs.Model.{over_heads}
use Rattle.outside_weights.proofs.over_spans.Given as goal

abbrev pub invariant-loop-from : goal.invariant-loop-from
invariant-loop-from l = (l.from ≤ l.d.last + 1 - l.length) × (length l.t ≡ length l.initial.t) × (plain l.t ≡ plain l.initial.t)
    × (fourths l.t ≡ iter (λ u i. over_heads u (plain l.initial.t) l.rules l.index l.d i (i + l.length)) (fourths l.initial.t) l.from)

abbrev pub decreases-loop-from : goal.decreases-loop-from
decreases-loop-from l = l.d.last + 1 - l.length - l.from
