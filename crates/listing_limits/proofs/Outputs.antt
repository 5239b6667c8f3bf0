-- The bytes of as many readings as are wanted stay small.
use Prim.Native.Nat.{ℕ, ◌+◌, ◌*◌, ◌≤◌}
use native.Mathlib.Nat.{mul-le-mul}
use native.Mathlib.Omega.{arith}
use Rattle.packing.specs.GraphReading.{graph_reading_length}
use Rattle.traced_readings.proofs.Sizes.{longest_small}

pub output_small : (limit : ℕ) {N size : ℕ} → N ≤ 256 → size ≤ graph_reading_length limit 256 → N * size ≤ 256 * (3 * limit + 5)
output_small limit h k = mul-le-mul h (omega (arith, k, longest_small limit))
