-- The number of places is fuel enough for the root.
use native.Mathlib.Omega.{arith}
use Rattle.chart.specs.Chart.{root_trace}
use borrow.Author.Rules.{rules}
use Rattle.chart.proofs.trace_root.Goals as goal

pub trace_back-requires : goal.trace_back-requires
trace_back-requires c = rw c.root.ensures (search rules)

pub returns : goal.returns
unfolding root_trace
returns c = rw (← c.root.ensures) (c.trace_back.ensures _ (rw c.root.ensures (omega arith)))
