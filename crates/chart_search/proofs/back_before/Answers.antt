-- As in the definition.
use Rattle.chart_search.specs.Search.{back_before}
use Rattle.chart_search.proofs.back_before.Goals as goal

pub returns : goal.returns
unfolding back_before
returns c = (rw (← c.cell_number.ensures.0, ← c.back_at.ensures.0) c.back_pointer.ensures.0, c.back_pointer.ensures.1)
