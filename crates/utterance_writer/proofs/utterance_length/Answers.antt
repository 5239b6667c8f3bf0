-- At most 180 candidates of at most 24 bits stay far below the largest number.
use Prim.Native.Nat.{ℕ, ◌+◌, ◌-◌, ◌/◌, ◌*◌, ◌≤◌}
use native.Mathlib.Omega.{arith}
use Rattle.utterance_writer.proofs.Slots.{candidates_small}
use Rattle.utterance_writer.proofs.utterance_length.Goals as goal

small : (n numbers width : ℕ) → numbers ≤ 360 → width ≤ 8 → (numbers - n) / 2 * (width + 16) ≤ 4320
small n numbers width h k = candidates_small (omega arith) (omega arith)

pub overflow_mul-bits-2 : goal.overflow_mul-bits-2
overflow_mul-bits-2 c =
    omega (arith, small c.args.n c.args.numbers c.width_below-width.result (omega arith) c.width_below-width.ensures.1)

pub overflow_add-bits-2 : goal.overflow_add-bits-2
overflow_add-bits-2 c =
    omega (arith, small c.args.n c.args.numbers c.width_below-width.result (omega arith) c.width_below-width.ensures.1)

pub overflow_add-bits-3 : goal.overflow_add-bits-3
overflow_add-bits-3 c =
    omega (arith, small c.args.n c.args.numbers c.width_below-width.result (omega arith) c.width_below-width.ensures.1)

pub returns : goal.returns
returns c = rw (← c.width_below-width.ensures.0) (omega (arith, c.div_ceil.ensures))
