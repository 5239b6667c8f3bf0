-- The loop is the iteration over the ranks up to the last found; of a cell that is clear nothing is left to clear.
use mathlib.Core.Path.{refl, ◌∙◌}
use native.Mathlib.Omega.{arith}
use Rattle.packing.specs.Loop.{iter}
use Rattle.packing.proofs.Loop.{iter_more, iter_end}
use Rattle.chart_table.specs.Table.{clear_cell}
use Rattle.chart_clearing.proofs.Cleared.{cell_clear}
use Rattle.chart_clearing.proofs.clear_cell.Goals as goal

pub returns-then-is_clear : goal.returns-then-is_clear
returns-then-is_clear c = cell_clear _ _ _ (c.is_clear.ensures c.if-is_clear.true) c.requires.0.kept

pub loop-x-init : goal.loop-x-init
unfolding iter
loop-x-init c = refl

pub loop-x-preserved : goal.loop-x-preserved
loop-x-preserved c = rw (iter_more, ← c.loop-x.invariant) c.clear_entry.ensures

pub returns : goal.returns
unfolding clear_cell
returns c = rw (← c.ranks_to_clear-x-end.ensures.0) (c.loop-x.invariant ∙ iter_end _ _ _ _ (omega arith) c.loop-x-test.false)
