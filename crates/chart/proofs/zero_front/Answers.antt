-- The front, or the whole table where that is shorter.
use mathlib.Core.Path.{sym}
use lib.Seq.{length-take-le}
use Rattle.chart.proofs.Front.{front_zeros}
use Rattle.chart.proofs.zero_front.Goals as goal

pub slice_bounds-zero-end-then-front-t : goal.slice_bounds-zero-end-then-front-t
slice_bounds-zero-end-then-front-t c = sym (length-take-le _ _ c.if-front-t.true)

pub returns-then-front-t : goal.returns-then-front-t
returns-then-front-t c =
    λ behind. front_zeros c.args.front c.args.t.now c.if-front-t.true c.zero.ensures behind

pub returns-else-front-t : goal.returns-else-front-t
returns-else-front-t c = λ behind. c.zero-else-front-t.ensures
