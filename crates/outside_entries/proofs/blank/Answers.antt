-- What is passed is 0: the fourth numbers are that many zeros and what stood behind them.
use mathlib.Core.Path.{refl, ◌∙◌}
use native.Mathlib.Omega.{arith}
use lib.ListN.{length-set}
use Rattle.arrays.proofs.Zeros.{zeros_more, zeros_end}
use Rattle.outside_entries.specs.Entries.{fourths}
use Rattle.outside_entries.proofs.Views.{fourth_set, plain_set, fourths_length}
use Rattle.outside_entries.proofs.blank.Goals as goal

pub loop-c-init : goal.loop-c-init
loop-c-init c = (refl, omega arith, refl, refl, refl)

pub loop-c-smaller : goal.loop-c-smaller
loop-c-smaller c = omega (arith, c.loop-c-test.true)

pub loop-c-preserved : goal.loop-c-preserved
loop-c-preserved c = (
  c.loop-c.invariant.0,
  omega (arith, c.loop-c-test.true),
  simp length-set c.loop-c.invariant.2,
  plain_set c.loop-c.t c.loop-c.c 0 ∙ c.loop-c.invariant.3,
  fourth_set c.loop-c.t c.loop-c.c 0
      ∙ rw c.loop-c.invariant.4 (zeros_more (fourths c.args.t.now) c.loop-c.c
      (omega (arith, fourths_length c.args.t.now, c.loop-c.invariant.0, c.loop-c-test.true))),
)

pub shape_of-t : goal.shape_of-t
shape_of-t c = c.loop-c.invariant.2

pub returns : goal.returns
returns c =
    let long = fourths_length c.args.t.now in (
      c.loop-c.invariant.4 ∙ zeros_end (fourths c.args.t.now) c.loop-c.c
          (omega (arith, long, c.loop-c.invariant.0, c.loop-c.invariant.1)) (omega (arith, long, c.loop-c.invariant.0, c.loop-c-test.false)) ∙ rw long,
      c.loop-c.invariant.3,
    )
