-- What is left to put back, put back, is all of it put back.
use mathlib.Core.Path.{◌≡◌}
use Rattle.chart_journal.specs.Journal.{restore_all}
use Rattle.chart_journal.proofs.put_back.Given as goal

abbrev pub invariant-loop-x : goal.invariant-loop-x
invariant-loop-x l = restore_all l.kept l.x l.t ≡ restore_all l.kept l.initial.x l.initial.t
