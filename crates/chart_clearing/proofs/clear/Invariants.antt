-- The loop is the iteration over the cells.
use mathlib.Core.Path.{◌≡◌}
use Rattle.packing.specs.Loop.{iter}
use Rattle.chart_table.specs.Table.{clear_cell}
use Rattle.chart_clearing.proofs.clear.Given as goal

abbrev pub invariant-loop-c : goal.invariant-loop-c
invariant-loop-c l = l.t ≡ iter (λ u c. clear_cell u l.d c) l.initial.t l.c
