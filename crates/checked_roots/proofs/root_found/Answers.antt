-- A rank is found if its price plus 1 is not 0.
use Rattle.chart.specs.Chart.{root_found}
use borrow.Author.Rules.{rules}
use Rattle.checked_roots.proofs.root_found.Goals as goal

pub cell_number-requires : goal.cell_number-requires
cell_number-requires c = rw c.root.ensures (search rules)

pub returns : goal.returns
unfolding root_found
returns c = rw (← c.root.ensures, ← c.cell_number.ensures.0, ← c.price_at.ensures.0)
