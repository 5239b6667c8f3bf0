-- The symbols are those of the rule, if the array has it.
use mathlib.Core.Bool.{false≢true}
use mathlib.Core.Path.{sym}
use Rattle.chart_seeds.proofs.parts_meet.Goals as goal

pub returns-then-rules-at : goal.returns-then-rules-at
returns-then-rules-at c = λ e. absurd (false≢true (sym e))
