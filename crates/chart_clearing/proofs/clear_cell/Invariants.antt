-- The loop is the iteration over the ranks up to the last found; of a cell that is clear nothing is left to clear.
use mathlib.Core.Path.{◌≡◌}
use Rattle.packing.specs.Loop.{iter}
use Rattle.chart_table.specs.Table.{clear_entry}
use Rattle.chart_clearing.proofs.clear_cell.Given as goal

abbrev pub invariant-loop-x : goal.invariant-loop-x
invariant-loop-x l = l.t ≡ iter (λ u x. clear_entry u l.d l.number x) l.initial.t l.x
