-- After k turns the number is the field of k whole bytes.
use mathlib.Core.Path.{◌≡◌, refl, sym}
use mathlib.Core.List.{List}
use Prim.Native.Nat.{ℕ, ◌+◌, ◌-◌, ◌*◌, ◌≤◌, ◌<◌}
use native.Mathlib.Omega.{arith}
use lib.ListN.{length, get_or, take, drop, length-drop}
use Rattle.std.proofs.Common.{get_or-take, get_or-drop, length-take-le}
use Rattle.bits.specs.Bits.{num}
use Rattle.bits.proofs.Num.{field_small, field_bytes}
use Rattle.bit_reader.proofs.bytes_from.Goals as goal

-- the bytes that are passed
module _ (s : List ℕ) (first count : ℕ) (h : first + count ≤ length s) where
  size : length (take (first + count - first) (drop first s)) ≡ count
  size = let e : first + count - first ≡ count = omega arith in rw (e, length-take-le count (drop first s) (omega (arith, length-drop first s)))

  byte : (k : ℕ) → k < length (take (first + count - first) (drop first s)) → get_or (take (first + count - first) (drop first s)) k 0 ≡ get_or s (first + k) 0
  byte k l =
      let e : first + count - first ≡ count = omega arith in
      rw (e, get_or-take count (drop first s) k 0 (omega (arith, size)), get_or-drop first s k 0)

pub loop-x-init : goal.loop-x-init
unfolding num
loop-x-init c = refl

pub overflow_mul-v : goal.overflow_mul-v
overflow_mul-v c =
    let a = c.args in
    let n : 8 * c.loop-x.x-index ≤ 24 = omega (arith, size a.s.now a.first a.count c.requires.1) in
    record { fits = omega (arith, c.loop-x.invariant, field_small a.s.now (8 * a.first) (8 * c.loop-x.x-index) n) }

pub overflow_add-v : goal.overflow_add-v
overflow_add-v c =
    let a = c.args in
    record {
      fits = omega (
        arith,
        c.loop-x.invariant,
        field_small a.s.now (8 * a.first) (8 * c.loop-x.x-index) (omega (arith, size a.s.now a.first a.count c.requires.1)),
        c.from.ensures,
        byte a.s.now a.first a.count c.requires.1 c.loop-x.x-index c.loop-x-test.true,
        c.type_inv.s (a.first + c.loop-x.x-index),
      );
    }

pub loop-x-preserved : goal.loop-x-preserved
loop-x-preserved c =
    let a = c.args in
    let k = c.loop-x.x-index in
    rw (c.loop-x.invariant, c.from.ensures, byte a.s.now a.first a.count c.requires.1 k c.loop-x-test.true)
    (sym (field_bytes a.s.now (λ i. omega (arith, c.type_inv.s i)) a.first k))

pub returns : goal.returns
returns c =
    let a = c.args in
    let e : c.loop-x.x-index ≡ a.count = omega (arith, size a.s.now a.first a.count c.requires.1) in
    rw (← e) c.loop-x.invariant
