-- Each call has the meaning of its part of the promise.
use Rattle.chart.specs.Chart.{root_weight}
use borrow.Author.Rules.{rules}
use Rattle.chart.proofs.root_weight.Goals as goal

pub cell_number-requires : goal.cell_number-requires
cell_number-requires c = rw c.root.ensures (search rules)

pub returns : goal.returns
unfolding root_weight
returns c = rw (← c.root.ensures, ← c.cell_number.ensures.0, ← c.price_at.ensures.0) c.found_weight.ensures
