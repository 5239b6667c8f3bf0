-- The shift that makes the power loses no bit.
use mathlib.Core.Path.{◌≡◌, ap, ◌∙◌}
use Prim.Native.Nat.{ℕ, ◌*◌, ◌%◌, ◌^◌, ◌≤◌}
use native.Mathlib.Omega.{arith}
use lib.Pow.{pow_pos, shl_exact}
use Rattle.bits.proofs.lower.Goals as goal

-- 1 shifted, in 32 bits
power : (w : ℕ) → w ≤ 24 → 1 * 2 ^ w % 2 ^ 32 ≡ 2 ^ w
power w h = shl_exact {a = 1} 1 w 32 (omega arith) (omega arith) ∙ omega arith

pub nonzero_rem-result : goal.nonzero_rem-result
nonzero_rem-result c = rw (power c.args.width (omega arith)) (pow_pos c.args.width)

pub returns : goal.returns
returns c = ap (λ (n : ℕ). c.args.value % n) (power c.args.width (omega arith))
