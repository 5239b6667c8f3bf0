-- Four bytes, one after the other, are the field of all.
use Prim.Native.Nat.{ℕ, ◌+◌, ◌<◌}
use native.Mathlib.Omega.{arith}
use lib.ListN.{get_or}
use Rattle.bits.proofs.Num.{field_byte, field_bytes}
use Rattle.bit_reader.proofs.four_bytes.Goals as goal

pub returns : goal.returns
returns c =
    let s = c.args.s.now in
    let i = c.args.first in
    let bytes : (k : ℕ) → get_or s k 0 < 256 = λ k. omega (arith, c.type_inv.s k) in
    let r = c.from_be_bytes.ensures in
    omega (
      arith,
      field_byte s bytes i,
      field_bytes s bytes i 1,
      field_bytes s bytes i 2,
      field_bytes s bytes i 3,
      bytes i,
      bytes (i + 1),
      bytes (i + 2),
      bytes (i + 3),
    )
