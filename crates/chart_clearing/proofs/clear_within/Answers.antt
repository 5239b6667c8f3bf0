-- Four stores, none past the end.
use native.Mathlib.Omega.{arith}
use lib.ListN.{length-set}
use Rattle.chart_clearing.proofs.clear_within.Goals as goal

pub bounds-t-at-2 : goal.bounds-t-at-2
bounds-t-at-2 c = simp length-set (omega (arith, c.requires))

pub bounds-t-at-3 : goal.bounds-t-at-3
bounds-t-at-3 c = simp length-set (omega (arith, c.requires))

pub bounds-t-at-4 : goal.bounds-t-at-4
bounds-t-at-4 c = simp length-set (omega (arith, c.requires))
