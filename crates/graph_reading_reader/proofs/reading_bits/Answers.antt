-- At most 47 rule numbers of at most 8 bits and 24 edge numbers of 7 stay far below the largest number. Assumes nothing.
use Prim.Native.Nat.{◌-◌, ◌*◌}
use native.Mathlib.Nat.{mul-le-mul}
use native.Mathlib.Omega.{arith}
use Rattle.graph_reading_reader.proofs.reading_bits.Goals as goal

pub overflow_mul-result-2 : goal.overflow_mul-result-2
overflow_mul-result-2 c = omega (arith, mul-le-mul {n₁ = 2 * c.args.n - 1} {m₁ = c.width_below-width.result} {n₂ = 47} {m₂ = 8} (omega arith) (omega arith))

pub overflow_add-result : goal.overflow_add-result
overflow_add-result c = omega (arith, mul-le-mul {n₁ = 2 * c.args.n - 1} {m₁ = c.width_below-width.result} {n₂ = 47} {m₂ = 8} (omega arith) (omega arith))

pub overflow_add-result-2 : goal.overflow_add-result-2
overflow_add-result-2 c = omega (arith, mul-le-mul {n₁ = 2 * c.args.n - 1} {m₁ = c.width_below-width.result} {n₂ = 47} {m₂ = 8} (omega arith) (omega arith))

pub returns : goal.returns
returns c = (
  rw c.width_below-width.ensures.0,
  omega (
    arith,
    mul-le-mul {n₁ = 2 * c.args.n - 1} {m₁ = c.width_below-width.result} {n₂ = 47} {m₂ = 8} (omega arith) (omega arith),
  ),
)
