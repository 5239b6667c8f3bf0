-- A field within one byte is one part; a field that ends in the next byte is put in two (`put-append`), the last at the front of that byte.
use mathlib.Core.Path.{◌≡◌, refl}
use Prim.Native.Nat.{◌-◌, ◌+◌, ◌*◌, ◌/◌, ◌%◌}
use native.Mathlib.Omega.{arith}
use Rattle.bits.specs.Put.{put}
use Rattle.bits.proofs.Put.{put_append}
use Rattle.bit_writer.proofs.write_field.Goals as goal

pub returns-then-width-eq0 : goal.returns-then-width-eq0
unfolding put
returns-then-width-eq0 c =
    let a = c.args in
    rw c.if-width-eq0.true refl

pub returns-then-width-room-2 : goal.returns-then-width-room-2
returns-then-width-room-2 c =
    let a = c.args in
    let room = 8 - a.at % 8 in
    let e : room + (a.width - room) ≡ a.width = omega arith in
    let n : a.at + room ≡ 8 * (a.at / 8 + 1) = omega arith in
    let p = rw (e, n) at (put_append a.out.now a.at room (a.width - room) a.value) in
    cc
