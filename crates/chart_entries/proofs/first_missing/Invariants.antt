-- What is missing from the rank looked at on is what is missing from the first on.
use mathlib.Core.Path.{◌≡◌}
use Prim.Native.Nat.{◌-◌, ◌≤◌}
use Rattle.chart_table.specs.Table.{missing_from, first_missing}
use Rattle.chart_entries.proofs.first_missing.Given as goal

abbrev pub invariant-loop-x : goal.invariant-loop-x
invariant-loop-x l = (l.x ≤ l.d.ranks) × (first_missing l.t l.d l.number ≡ missing_from l.t l.d l.number (l.d.ranks - l.x) l.x)

abbrev pub decreases-loop-x : goal.decreases-loop-x
decreases-loop-x l = l.d.ranks - l.x
