-- What remains behind the first i candidates is written from bit `at` on, and at the end nothing remains.
use native.Mathlib.Nat.{sub-zero, add-zero}
use native.Mathlib.Omega.{arith}
use Rattle.bits.proofs.Remaining.{all_remain, none_remain, one_within, one_written}
use Rattle.utterance_writer.proofs.Slots.{candidates_some, candidates_more, candidates_end}
use Rattle.utterance_writer.proofs.write_candidates.Goals as goal

pub loop-i-init : goal.loop-i-init
loop-i-init c = rw (sub-zero, add-zero) all_remain

pub overflow_mul-i : goal.overflow_mul-i
overflow_mul-i c =
    let a = c.args in
    omega (arith, candidates_some a.words a.slots.now a.p a.n)

pub overflow_add-p : goal.overflow_add-p
overflow_add-p c =
    let a = c.args in
    omega (arith, candidates_some a.words a.slots.now a.p a.n)

pub write_field-requires : goal.write_field-requires
write_field-requires c =
    let a = c.args in
    let l = c.loop-i in
    let m = rw (candidates_more a.words a.slots.now a.p a.n l.i c.width_below-width.ensures.0 c.loop-i-test.true)
    at l.invariant in
    omega (arith, one_within m)

pub overflow_mul-i-in-loop-i : goal.overflow_mul-i-in-loop-i
overflow_mul-i-in-loop-i c =
    let a = c.args in
    omega (arith, candidates_some a.words a.slots.now a.p a.n)

pub overflow_add-p-in-loop-i : goal.overflow_add-p-in-loop-i
overflow_add-p-in-loop-i c =
    let a = c.args in
    omega (arith, candidates_some a.words a.slots.now a.p a.n)

pub overflow_add-p-in-loop-i-2 : goal.overflow_add-p-in-loop-i-2
overflow_add-p-in-loop-i-2 c =
    let a = c.args in
    omega (arith, candidates_some a.words a.slots.now a.p a.n)

pub write_field-requires-in-loop-i : goal.write_field-requires-in-loop-i
write_field-requires-in-loop-i c =
    let a = c.args in
    let l = c.loop-i in
    let m = rw (candidates_more a.words a.slots.now a.p a.n l.i c.width_below-width.ensures.0 c.loop-i-test.true)
    at l.invariant in
    let w = one_written m (rw c.narrow_at-word.ensures at c.write_field.ensures) in
    omega (arith, one_within w)

pub loop-i-preserved : goal.loop-i-preserved
loop-i-preserved c =
    let a = c.args in
    let l = c.loop-i in
    let m = rw (candidates_more a.words a.slots.now a.p a.n l.i c.width_below-width.ensures.0 c.loop-i-test.true)
    at l.invariant in
    let w = one_written m (rw c.narrow_at-word.ensures at c.write_field.ensures) in
    one_written w (rw c.narrow_at-cost.ensures at c.write_field-in-loop-i.ensures)

pub returns : goal.returns
returns c =
    let a = c.args in
    let l = c.loop-i in
    none_remain (rw (candidates_end a.words a.slots.now a.p a.n l.i (omega arith)) at l.invariant)
