-- The edges from e on do not fit.
use mathlib.Core.Path.{◌≡◌}
use Rattle.chart_trace.specs.Checked.{any_leaf}
use Rattle.chart_trace.proofs.checked.any_leaf.Given as goal

abbrev pub invariant-loop-e : goal.invariant-loop-e
invariant-loop-e l = any_leaf l.edges l.count l.c l.word l.weight l.count ≡ any_leaf l.edges l.count l.c l.word l.weight l.e
