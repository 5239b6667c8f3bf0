-- The loop is the iteration over the cells.
use mathlib.Core.Path.{refl, ◌∙◌}
use native.Mathlib.Omega.{arith}
use Rattle.packing.specs.Loop.{iter}
use Rattle.packing.proofs.Loop.{iter_more, iter_end}
use Rattle.chart_table.specs.Table.{clear}
use Rattle.chart_clearing.proofs.clear.Goals as goal

pub loop-c-init : goal.loop-c-init
unfolding iter
loop-c-init c = refl

pub loop-c-preserved : goal.loop-c-preserved
loop-c-preserved c = rw (iter_more, ← c.loop-c.invariant) c.clear_cell.ensures

pub returns : goal.returns
unfolding clear
returns c = c.loop-c.invariant ∙ iter_end _ _ _ _ (omega arith) c.loop-c-test.false
