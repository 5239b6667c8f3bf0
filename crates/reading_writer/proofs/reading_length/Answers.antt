-- Rule numbers have at most 8 bits each, so that the walk of a path within the limit stays far below the largest number.
use Prim.Native.Nat.{◌-◌, ◌*◌}
use native.Mathlib.Nat.{mul-le-mul_left}
use native.Mathlib.Omega.{arith}
use Rattle.packing.specs.Reading.{reading_length}
use Rattle.reading_writer.proofs.reading_length.Goals as goal

pub overflow_mul-n-2 : goal.overflow_mul-n-2
overflow_mul-n-2 c = omega (arith, mul-le-mul_left (2 * c.args.n - 1) c.width_below-width.ensures.1)

pub overflow_add-n : goal.overflow_add-n
overflow_add-n c = omega (arith, mul-le-mul_left (2 * c.args.n - 1) c.width_below-width.ensures.1)

pub returns : goal.returns
unfolding reading_length
returns c = rw (← c.width_below-width.ensures.0) (omega (arith, c.div_ceil.ensures))
