-- The field is the middle of the bytes that it touches, and of four bytes from its first on.
use Prim.Native.Nat.{◌+◌, ◌-◌, ◌%◌}
use native.Mathlib.Omega.{arith}
use lib.Pow.{shr_le}
use Rattle.bits.proofs.Num.{field_touched}
use Rattle.bit_reader.proofs.read_field.Goals as goal

pub overflow_cast-v : goal.overflow_cast-v
overflow_cast-v c =
    let a = c.args in
    omega (arith, shr_le c.four_bytes-v.result (32 - (a.at % 8 + a.width)), c.four_bytes-v.ensures.1)

pub returns-then-at-s : goal.returns-then-at-s
returns-then-at-s c =
    let a = c.args in
    rw (c.lower.ensures, c.four_bytes-v.ensures.0) (field_touched a.s.now a.at a.width 4 (omega arith))

pub returns : goal.returns
returns c =
    let a = c.args in
    rw (c.lower-2.ensures, c.bytes_from-v.ensures) (field_touched a.s.now a.at a.width c.div_ceil-count.result (omega arith))
