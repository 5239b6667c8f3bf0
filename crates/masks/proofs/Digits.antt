-- The digits of a conjunction are the lesser ones, those of a disjunction the greater; and what is in a mask stays
-- there.
use mathlib.Core.Path.{◌≡◌, refl, sym, ◌∙◌}
use mathlib.Core.Logic.{◌⊎◌, inl, inr}
use mathlib.Core.List.{List}
use Prim.Native.Nat.{ℕ, zero, suc, ◌+◌, ◌-◌, ◌*◌, ◌/◌, ◌%◌, ◌^◌, ◌≤◌, ◌<◌, min, max}
use native.Mathlib.Nat.{zero-div, div-one, div_self, one-mul}
use native.Mathlib.Decide.{ℕ_discrete}
use native.Mathlib.Omega.{arith}
use lib.Bits.{bit_and, bit_or, and_shr, and_step, or_shr, or_step}
use lib.Count.{under, count_trailing_zeros}
use lib.ListN.{length, get_or, set}
use lib.Pow.{pow_pos, shl_exact, shr-shr}
use lib.Seq.{get_or-set_same, get_or-set_other}
use Rattle.masks.specs.Digits.{digit, Disjoint, Put}

and_digit : (x y j : ℕ) → digit (bit_and x y) j ≡ min (digit x j) (digit y j)
and_digit x y j =
    rw (and_shr x y j, and_step (x / 2 ^ j) (y / 2 ^ j))
    (small (bit_and (x / 2 ^ j / 2) (y / 2 ^ j / 2)) (x / 2 ^ j % 2) (y / 2 ^ j % 2) (omega arith) (omega arith))
  where
    small : (a p q : ℕ) → p < 2 → q < 2 → (a * 2 + min p q) % 2 ≡ min p q
    small a p q h h' = omega arith

or_digit : (x y j : ℕ) → digit (bit_or x y) j ≡ max (digit x j) (digit y j)
or_digit x y j =
    rw (or_shr x y j, or_step (x / 2 ^ j) (y / 2 ^ j))
    (small (bit_or (x / 2 ^ j / 2) (y / 2 ^ j / 2)) (x / 2 ^ j % 2) (y / 2 ^ j % 2) (omega arith) (omega arith))
  where
    small : (a p q : ℕ) → p < 2 → q < 2 → (a * 2 + max p q) % 2 ≡ max p q
    small a p q h h' = omega arith

lesser_zero : (p q : ℕ) → min p q ≡ 0 → (p ≡ 0) ⊎ (q ≡ 0)
lesser_zero zero q e = inl refl
lesser_zero (suc p) zero e = inr refl
lesser_zero (suc p) (suc q) e = absurd (omega arith)

pub zero_digit : (j : ℕ) → digit 0 j ≡ 0
zero_digit j = rw (zero-div (2 ^ j))

pub and_parts : (x y j : ℕ) → digit (bit_and x y) j ≡ 0 → (digit x j ≡ 0) ⊎ (digit y j ≡ 0)
and_parts x y j e = lesser_zero (digit x j) (digit y j) (sym (and_digit x y j) ∙ e)

pub and_disjoint : (x y : ℕ) → bit_and x y ≡ 0 → Disjoint x y
and_disjoint x y e j = and_parts x y j (rw e (zero_digit j))

-- the mask of one place
pub own_digit : (j : ℕ) → digit (2 ^ j) j ≡ 1
own_digit j = rw (div_self {n = 2 ^ j} (pow_pos j))

pub and_lacks : (x j : ℕ) → bit_and x (2 ^ j) ≡ 0 → digit x j ≡ 0
and_lacks x j e = go (and_disjoint x (2 ^ j) e j)
  where
    go : (digit x j ≡ 0) ⊎ (digit (2 ^ j) j ≡ 0) → digit x j ≡ 0
    go (inl z) = z
    go (inr z) = absurd (let one = own_digit j in omega (arith, sym z ∙ one))

pub or_lacks : (x y j : ℕ) → digit (bit_or x y) j ≡ 0 → (digit x j ≡ 0) × (digit y j ≡ 0)
or_lacks x y j e = let z = rw (or_digit x y j) at e in (omega (arith, z), omega (arith, z))

-- as the machine shifts
pub shifted : (bits j : ℕ) → j < bits → 1 * 2 ^ j % 2 ^ bits ≡ 2 ^ j
shifted bits j h = rw (shl_exact {a = 1} 1 j bits (omega arith) (omega arith), one-mul (2 ^ j))

pub shift_only : (j : ℕ) → j < 32 → digit (1 * 2 ^ j % 4294967296) j ≡ 1
shift_only j h = rw (shifted 32 j h) (own_digit j)

pub shift_lacks : (x j : ℕ) → j < 32 → bit_and x (1 * 2 ^ j % 4294967296) ≡ 0 → digit x j ≡ 0
shift_lacks x j h e = and_lacks x j (rw (shifted 32 j h) at e)

-- a mask lacks what stands before its first place, counted from its start or from a place on
under_first : (p t : ℕ) → 0 < under p t → p ≡ 0
under_first zero t h = refl
under_first (suc p) t h = absurd (omega arith)

under_rest : (p t j : ℕ) → suc j < under p t → j < t
under_rest zero t j h = omega arith
under_rest (suc p) t j h = absurd (omega arith)

trailing_lacks : (bits x j : ℕ) → j < count_trailing_zeros bits x → digit x j ≡ 0
unfolding count_trailing_zeros
trailing_lacks zero x j h = absurd (omega arith)
trailing_lacks (suc bits) x zero h = rw (div-one x) (under_first (x % 2) (count_trailing_zeros bits (x / 2)) h)
trailing_lacks (suc bits) x (suc j) h =
    let e : suc j ≡ 1 + j = omega arith in
    rw (e, ← shr-shr x 1 j) (trailing_lacks bits (x / 2) j (under_rest (x % 2) (count_trailing_zeros bits (x / 2)) j h))

pub lacks_before : (bits x from j : ℕ) → from ≤ j → j < from + count_trailing_zeros bits (x / 2 ^ from) → digit x j ≡ 0
lacks_before bits x from j h l =
    let e : j ≡ from + (j - from) = omega arith in
    rw (e, ← shr-shr x from (j - from)) (trailing_lacks bits (x / 2 ^ from) (j - from) (omega arith))

-- what was in a mask stays there
pub put_or : (l : List ℕ) (at x : ℕ) → at < length l → Put l at x (set l at (bit_or (get_or l at 0) x))
put_or l at x h = record {
  kept = λ y j e. go y j e (ℕ_discrete y at);
  has = λ j e. (or_lacks (get_or l at 0) x j (rw (get_or-set_same l at (bit_or (get_or l at 0) x) 0 h) at e)).1;
  other = λ y other. get_or-set_other l at y (bit_or (get_or l at 0) x) 0 other;
}
  where
    go : (y j : ℕ) → digit (get_or (set l at (bit_or (get_or l at 0) x)) y 0) j ≡ 0 → Dec (y ≡ at) → digit (get_or l y 0) j ≡ 0
    go y j e (yes same) = rw same (or_lacks (get_or l at 0) x j (rw (same, get_or-set_same l at (bit_or (get_or l at 0) x) 0 h) at e)).0
    go y j e (no other) = rw (get_or-set_other l at y (bit_or (get_or l at 0) x) 0 other) at e
