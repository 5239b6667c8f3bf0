-- Each product on the way is small.
use mathlib.Core.Path.{refl}
use native.Mathlib.Omega.{arith}
use Rattle.chart_layout.specs.Layout.{lay_out}
use Rattle.chart_layout.proofs.Sizes.{spans_small, cells_small}
use Rattle.chart_layout.proofs.lay_out.Goals as goal

pub overflow_mul-result : goal.overflow_mul-result
overflow_mul-result c = omega (arith, spans_small c.requires.1)

pub overflow_mul-result-2 : goal.overflow_mul-result-2
overflow_mul-result-2 c = omega (arith, cells_small c.requires.0 c.requires.1)

pub returns : goal.returns
unfolding lay_out
returns c = (
  refl,
  record {
    symbols = c.requires.0;
    places = c.requires.1;
    ranks = c.requires.3;
    kept = c.requires.2;
    cells = omega (arith, cells_small c.requires.0 c.requires.1);
  },
)
