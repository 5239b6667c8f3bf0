-- Six stores, none past the end.
use mathlib.Core.Path.{refl}
use native.Mathlib.Omega.{arith}
use lib.ListN.{length-set}
use Rattle.chart_journal.specs.Journal.{write_kept}
use Rattle.chart_journal.proofs.write_within.Goals as goal

pub bounds-kept-to-2 : goal.bounds-kept-to-2
bounds-kept-to-2 c = simp length-set (omega (arith, c.requires))

pub bounds-kept-to-3 : goal.bounds-kept-to-3
bounds-kept-to-3 c = simp length-set (omega (arith, c.requires))

pub bounds-kept-to-4 : goal.bounds-kept-to-4
bounds-kept-to-4 c = simp length-set (omega (arith, c.requires))

pub bounds-kept-to-5 : goal.bounds-kept-to-5
bounds-kept-to-5 c = simp length-set (omega (arith, c.requires))

pub returns : goal.returns
unfolding write_kept
returns c = refl
