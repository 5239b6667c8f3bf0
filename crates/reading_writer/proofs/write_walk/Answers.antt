-- What remains behind the first i numbers is written from bit `at` on, and at the end nothing remains.
use native.Mathlib.Nat.{sub-zero}
use native.Mathlib.Omega.{arith}
use Rattle.bits.proofs.Remaining.{all_remain, none_remain, one_within, one_written}
use Rattle.reading_writer.proofs.Walk.{rest_more, rest_end}
use Rattle.reading_writer.proofs.write_walk.Goals as goal

pub loop-i-init : goal.loop-i-init
loop-i-init c = (omega arith, rw sub-zero all_remain)

pub write_field-requires : goal.write_field-requires
write_field-requires c =
    let a = c.args in
    let l = c.loop-i in
    omega (
      arith,
      one_within (rw (rest_more a.rules a.trace.now a.n l.i c.width_below-width.ensures.0 (omega arith) (omega arith))
          at l.invariant.1),
    )

pub loop-i-preserved : goal.loop-i-preserved
loop-i-preserved c =
    let a = c.args in
    let l = c.loop-i in (
      omega arith,
      one_written (rw
          (rest_more a.rules a.trace.now a.n l.i c.width_below-width.ensures.0 (omega arith) (omega arith)) at l.invariant.1)
          c.write_field.ensures,
    )

pub returns : goal.returns
returns c =
    let a = c.args in
    let l = c.loop-i in
    (none_remain (rw (rest_end a.rules a.trace.now a.n l.i (omega arith)) at l.invariant.1)).1
