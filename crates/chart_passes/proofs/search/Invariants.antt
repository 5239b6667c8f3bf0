-- The first pass, with masks that have rules and no places, which cover a table of zeros, and then what is left to find of the root in
-- each turn is what was to be found at the start. (The model's name is a tactic's: it stays qualified.)
use Prim.Native.Nat.{◌≤◌, ◌-◌}
use mathlib.Core.Path.{◌≡◌}
use lib.ListN.{length}
use Rattle.chart_search.specs.Search as model
use Rattle.chart_passes.proofs.search.Given as goal

abbrev pub invariant-loop-x : goal.invariant-loop-x
invariant-loop-x l = (l.x ≤ l.m) × (length l.t ≡ length l.initial.t)
    × (model.further_from l.rules l.edges l.index l.d l.m l.initial.t 0
    ≡ model.further_from l.rules l.edges l.index l.d (l.m - l.x) l.t l.x) × (length l.kept ≡ 0)

abbrev pub decreases-loop-x : goal.decreases-loop-x
decreases-loop-x l = l.m - l.x
