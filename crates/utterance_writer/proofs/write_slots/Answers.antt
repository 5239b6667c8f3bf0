-- What remains behind the first i slots is written from bit `at` on, and at the end nothing remains.
use mathlib.Core.Path.{◌≡◌}
use Prim.Native.Nat.{◌+◌, ◌*◌}
use native.Mathlib.Nat.{sub-zero}
use native.Mathlib.Omega.{arith}
use Rattle.bits.proofs.Remaining.{all_remain, none_remain}
use Rattle.utterance_writer.proofs.Slots.{slots_end, slot_within, slot_written}
use Rattle.utterance_writer.proofs.write_slots.Goals as goal

pub loop-i-init : goal.loop-i-init
loop-i-init c = (omega arith, rw sub-zero all_remain)

pub write_field-requires : goal.write_field-requires
write_field-requires c =
    let l = c.loop-i in
    let a = c.args in
    omega (arith, slot_within a.words a.slots.now l.p a.n l.i c.number_at-count.ensures.0 c.loop-i-test.true l.invariant.1)

pub overflow_add-at : goal.overflow_add-at
overflow_add-at c =
    let l = c.loop-i in
    let a = c.args in
    omega (arith, slot_within a.words a.slots.now l.p a.n l.i c.number_at-count.ensures.0 c.loop-i-test.true l.invariant.1)

pub overflow_add-p : goal.overflow_add-p
overflow_add-p c =
    let l = c.loop-i in
    let a = c.args in
    omega (arith, slot_within a.words a.slots.now l.p a.n l.i c.number_at-count.ensures.0 c.loop-i-test.true l.invariant.1)

pub write_candidates-at-requires : goal.write_candidates-at-requires
write_candidates-at-requires c =
    let l = c.loop-i in
    let a = c.args in
    omega (arith, slot_within a.words a.slots.now l.p a.n l.i c.number_at-count.ensures.0 c.loop-i-test.true l.invariant.1)

pub overflow_add-p-in-loop-i : goal.overflow_add-p-in-loop-i
overflow_add-p-in-loop-i c =
    let l = c.loop-i in
    let a = c.args in
    omega (arith, slot_within a.words a.slots.now l.p a.n l.i c.number_at-count.ensures.0 c.loop-i-test.true l.invariant.1)

pub overflow_mul-p : goal.overflow_mul-p
overflow_mul-p c =
    let l = c.loop-i in
    let a = c.args in
    omega (arith, slot_within a.words a.slots.now l.p a.n l.i c.number_at-count.ensures.0 c.loop-i-test.true l.invariant.1)

pub overflow_add-p-in-loop-i-2 : goal.overflow_add-p-in-loop-i-2
overflow_add-p-in-loop-i-2 c =
    let l = c.loop-i in
    let a = c.args in
    omega (arith, slot_within a.words a.slots.now l.p a.n l.i c.number_at-count.ensures.0 c.loop-i-test.true l.invariant.1)

pub loop-i-preserved : goal.loop-i-preserved
loop-i-preserved c =
    let l = c.loop-i in
    let a = c.args in
    let k = c.number_at-count.result in
    let e : l.p + (1 + 2 * k) ≡ l.p + 1 + 2 * k = omega arith in
    let end = c.write_candidates-at.ensures in (
      omega (arith, slot_within a.words a.slots.now l.p a.n l.i c.number_at-count.ensures.0 c.loop-i-test.true l.invariant.1),
      rw e (slot_written a.words a.slots.now l.p a.n l.i c.number_at-count.ensures.0 c.loop-i-test.true l.invariant.1
          c.write_field.ensures end.1 end.0),
    )

pub returns : goal.returns
returns c =
    let a = c.args in
    let l = c.loop-i in
    (none_remain (rw (slots_end a.words a.slots.now l.p a.n l.i (omega arith)) at l.invariant.1)).1
