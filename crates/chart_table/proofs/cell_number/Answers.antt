-- No product wraps, since the places are at most 31 and the symbols at most 32.
use mathlib.Core.Path.{refl}
use native.Mathlib.Omega.{arith}
use Rattle.chart_table.specs.Table.{cell_number}
use Rattle.chart_table.proofs.Places.{cell_small}
use Rattle.chart_table.proofs.cell_number.Goals as goal

pub overflow_mul-result : goal.overflow_mul-result
overflow_mul-result c = omega (arith, cell_small c.args.d c.args.c c.requires)

pub overflow_add-result : goal.overflow_add-result
overflow_add-result c = omega (arith, cell_small c.args.d c.args.c c.requires)

pub overflow_mul-result-2 : goal.overflow_mul-result-2
overflow_mul-result-2 c = omega (arith, cell_small c.args.d c.args.c c.requires)

pub overflow_add-result-2 : goal.overflow_add-result-2
overflow_add-result-2 c = omega (arith, c.wide.ensures.1, cell_small c.args.d c.args.c c.requires)

pub returns : goal.returns
unfolding cell_number
returns c = (rw c.wide.ensures.0 refl, omega (arith, c.wide.ensures.1, cell_small c.args.d c.args.c c.requires))
