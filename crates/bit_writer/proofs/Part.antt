-- A field within one byte: each bit put keeps those above it, so the byte stored is the kept bits, the field and zeros.
-- Assumes nothing.
use mathlib.Core.Path.{◌≡◌, sym, ap, ◌∙◌}
use mathlib.Core.List.{List}
use Prim.Native.Nat.{ℕ, zero, suc, ◌+◌, ◌-◌, ◌*◌, ◌/◌, ◌%◌, ◌^◌, ◌≤◌, ◌<◌}
use native.Mathlib.Numerals.{add-one}
use native.Mathlib.Nat.{pow-suc, suc-mul, mul_assoc, mul-le-mul_right, mod-lt}
use native.Mathlib.Omega.{arith}
use lib.ListN.{length, get_or, set}
use lib.Seq.{get_or-set_same, set-set}
use lib.Pow.{pow_pos, pow_mono, pow-add, shr-shr, shl-shr, shr_lt, shl_lt, shl_exact, mod-pow-add}
use Rattle.bits.specs.Put.{last_bit, put_bit, put}

-- a field within one byte x, from its bit 8 - room
abbrev pub part : ℕ → ℕ → ℕ → ℕ → ℕ
part x room w v = (x / 2 ^ room * 2 ^ w + v % 2 ^ w) * 2 ^ (room - w)

part_one : (x k v : ℕ) → last_bit x k (v % 2) ≡ part x (k + 1) 1 v
part_one x k v = let e : k + 1 - 1 ≡ k = omega arith in rw (e, ← shr-shr x k 1)

part_more : (x w k v : ℕ) → last_bit (part x (k + suc w) w (v / 2)) k (v % 2) ≡ part x (k + suc w) (suc w) v
part_more x w k v =
    let e : k + suc w - w ≡ k + 1 = omega arith in
    let d : k + suc w - suc w ≡ k = omega arith in
    let h : part x (k + suc w) w (v / 2) / 2 ^ k / 2 ≡ x / 2 ^ (k + suc w) * 2 ^ w + v / 2 % 2 ^ w =
    shr-shr (part x (k + suc w) w (v / 2)) k 1 ∙ rw (e, shl-shr) in
    let m : v % 2 ^ suc w ≡ v / 2 % 2 ^ w * 2 + v % 2 = rw add-one at (mod-pow-add v w 1) in
    let q : x / 2 ^ (k + suc w) * (2 ^ w * 2) ≡ x / 2 ^ (k + suc w) * 2 ^ w * 2 = sym (mul_assoc (x / 2 ^ (k + suc w)) (2 ^ w) 2) in
    rw (d, h, m, pow-suc, q) (ap (λ (n : ℕ). n * 2 ^ k) (omega arith))

-- and as 32 bits compute it, from the lower bits u of the value
module _ (x room w v u : ℕ) (hx : x < 256) (hr : room ≤ 8) (hw : w ≤ room) (hu : u ≡ v % 2 ^ w) where
  upper_lt : x / 2 ^ room < 2 ^ (8 - room)
  upper_lt = let e : 8 - room + room ≡ 8 = omega arith in shr_lt (8 - room) room (rw e hx)

  upper_shl : x / 2 ^ room * 2 ^ w % 2 ^ 32 ≡ x / 2 ^ room * 2 ^ w
  upper_shl = shl_exact (8 - room) w 32 upper_lt (omega arith)

  joined_lt : x / 2 ^ room * 2 ^ w % 2 ^ 32 + u < 2 ^ (8 - room + w)
  joined_lt =
      let m : x / 2 ^ room * 2 ^ w + 2 ^ w ≤ 2 ^ (8 - room) * 2 ^ w = rw suc-mul at (mul-le-mul_right (2 ^ w) upper_lt) in
      rw (upper_shl, pow-add) (omega (arith, mod-lt v (pow_pos w)))

  pub joined_fits : x / 2 ^ room * 2 ^ w % 2 ^ 32 + u < 2 ^ 32
  joined_fits = omega (arith, joined_lt, pow_mono {i = 8 - room + w} {j = 8} (omega arith))

  pub joined_shl : (x / 2 ^ room * 2 ^ w % 2 ^ 32 + u) * 2 ^ (room - w) % 2 ^ 32 ≡ part x room w v
  joined_shl = shl_exact (8 - room + w) (room - w) 32 joined_lt (omega arith) ∙ rw (upper_shl, hu)

  pub part_lt : (x / 2 ^ room * 2 ^ w % 2 ^ 32 + u) * 2 ^ (room - w) % 2 ^ 32 < 256
  part_lt =
      let e : 8 - room + w + (room - w) ≡ 8 = omega arith in
      rw (shl_exact (8 - room + w) (room - w) 32 joined_lt (omega arith)) (rw e at (shl_lt (8 - room + w) (room - w) joined_lt))

-- put stores that one byte
pub put_part : (o : List ℕ) (at w v : ℕ) → 0 < w → at % 8 + w ≤ 8 → at < 8 * length o
    → put o at w v ≡ set o (at / 8) (part (get_or o (at / 8) 0) (8 - at % 8) w v)
unfolding put put_bit
put_part o at zero v z h l = absurd (omega arith)
put_part o at (suc zero) v z h l =
    let e : at + 0 ≡ at = omega arith in
    let d : 8 - at % 8 ≡ 7 - at % 8 + 1 = omega arith in
    rw (e, d, part_one (get_or o (at / 8) 0) (7 - at % 8) v)
put_part o at (suc (suc w)) v z h l =
    let e : (at + suc w) / 8 ≡ at / 8 = omega arith in
    let d : 8 - at % 8 ≡ 7 - (at + suc w) % 8 + suc (suc w) = omega arith in
    let b : at / 8 < length o = omega arith in
    let m = part_more (get_or o (at / 8) 0) (suc w) (7 - (at + suc w) % 8) v in
    rw (put_part o at (suc w) (v / 2) (omega arith) (omega arith) l, e, get_or-set_same o (at / 8), set-set, d, m)

-- the front of a byte, of which nothing is kept, from the lower bits u of the value
module _ (w v u : ℕ) (hw : w ≤ 8) (hu : u ≡ v % 2 ^ w) where
  none_kept : 0 * 2 ^ w % 2 ^ 32 + u ≡ u
  none_kept = omega arith

  pub end_lt : u * 2 ^ (8 - w) % 2 ^ 32 < 256
  end_lt = rw none_kept at (part_lt 0 8 w v u (omega arith) (omega arith) hw hu)

  pub put_end : (o : List ℕ) (b : ℕ) → get_or o b 0 < 256 → 0 < w → b < length o → put o (8 * b) w v ≡ set o b (u * 2 ^ (8 - w) % 2 ^ 32)
  put_end o b hx z l =
      let q : 8 * b / 8 ≡ b = omega arith in
      let m : 8 - 8 * b % 8 ≡ 8 = omega arith in
      let x : get_or o b 0 / 2 ^ 8 ≡ 0 = omega arith in
      let e = rw none_kept at (joined_shl 0 8 w v u (omega arith) (omega arith) hw hu) in
      put_part o (8 * b) w v z (omega arith) (omega arith) ∙ rw (q, m, x, e)
