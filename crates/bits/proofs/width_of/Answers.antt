-- The leading zeros and the width of a number above 0 make 64; a number below 256 has a width of at most 8.
use mathlib.Core.Path.{◌≡◌, ap, sym, ◌∙◌}
use Prim.Native.Nat.{ℕ, suc, ◌-◌, ◌^◌, ◌<◌}
use native.Mathlib.Omega.{arith}
use lib.Count.{count_leading_zeros, leading_le, leading_top}
use Rattle.bits.specs.Width.{width_of, width_from}
use Rattle.bits.proofs.Width.{width_le, width_top}
use Rattle.bits.proofs.width_of.Goals as goal

by_zeros : (x : ℕ) → 0 < x → x < 2 ^ 32 → 64 - count_leading_zeros 64 x ≡ width_of x
by_zeros x p h =
    let t = leading_top 64 x p (omega arith) in
    let e : 64 - count_leading_zeros 64 x ≡ suc t.0 = omega (arith, t.1) in
    e ∙ width_top x t.0 h t.2 t.3

pub returns-then-x-eq0 : goal.returns-then-x-eq0
unfolding width_of width_from
returns-then-x-eq0 c = (ap width_of (sym c.if-x-eq0.true), omega arith)

pub overflow_sub-result : goal.overflow_sub-result
overflow_sub-result c = leading_le 64 _

pub overflow_cast-result : goal.overflow_cast-result
overflow_cast-result c = omega arith

pub returns : goal.returns
returns c =
    let x = c.args.x in
    let small : x < 256 = c.requires in
    let e = by_zeros x (omega arith) (omega arith) in
    (e, omega (arith, e, width_le x 8 small (omega arith)))
