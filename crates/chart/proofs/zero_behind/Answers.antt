-- What is lent is all that stands behind the front.
use native.Mathlib.Omega.{arith}
use Rattle.chart.proofs.Front.{put_behind, none_behind}
use Rattle.chart.proofs.zero_behind.Goals as goal

pub returns-then-front-t : goal.returns-then-front-t
returns-then-front-t c = put_behind c.args.front c.args.t.now c.if-front-t.true c.zero.ensures

pub returns-else-front-t : goal.returns-else-front-t
returns-else-front-t c = none_behind c.args.front c.args.t.now (omega (arith, c.if-front-t.false))
