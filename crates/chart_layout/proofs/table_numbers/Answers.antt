-- Each product on the way is small.
use mathlib.Core.Path.{refl}
use native.Mathlib.Omega.{arith}
use Rattle.chart_layout.proofs.Sizes.{numbers_small}
use Rattle.chart_layout.proofs.table_numbers.Goals as goal

pub overflow_mul-result-2 : goal.overflow_mul-result-2
overflow_mul-result-2 c = omega (arith, numbers_small c.requires)

pub returns : goal.returns
returns c = (refl, numbers_small c.requires)
