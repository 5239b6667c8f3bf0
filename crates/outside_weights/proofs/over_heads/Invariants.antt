-- The loop is the iteration over the heads.
use mathlib.Core.Path.{◌≡◌}
use Prim.Native.Nat.{◌-◌, ◌≤◌}
use lib.ListN.{length}
use Rattle.packing.specs.Loop.{iter}
use Rattle.packing.specs.Meaning.{symbol_of}
use Rattle.chart_table.specs.Table.{cell}
use Rattle.outside_entries.specs.Entries.{fourths, plain}
use Rattle.outside_theory.specs.Model.{push_node}
use Rattle.outside_weights.proofs.over_heads.Given as goal

abbrev pub invariant-loop-a : goal.invariant-loop-a
invariant-loop-a l = (l.a ≤ l.d.symbols) × (length l.t ≡ length l.initial.t) × (plain l.t ≡ plain l.initial.t)
    × (fourths l.t ≡ iter (λ u b. push_node u (plain l.initial.t) l.rules l.index l.d (cell (symbol_of b) l.from l.to)) (fourths l.initial.t) l.a)

abbrev pub decreases-loop-a : goal.decreases-loop-a
decreases-loop-a l = l.d.symbols - l.a
