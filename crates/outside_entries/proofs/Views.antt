-- A table for one reading and its fourth numbers: what is stored there is stored in the list of them, and what stands beside them stays.
use mathlib.Core.Path.{◌≡◌, refl, ap, ◌∙◌}
use mathlib.Core.List.{List, [], ◌∷◌}
use Prim.Native.Nat.{ℕ, zero, suc, ◌+◌, ◌*◌, ◌/◌, ◌%◌}
use native.Mathlib.Omega.{arith}
use lib.ListN.{length, get_or, set, replicate}
use Rattle.chart_table.specs.declared.Layout.{Layout}
use Rattle.chart_table.specs.Table.{entry_of, price_at}
use Rattle.outside_entries.specs.Entries.{fourths, plain, lesser, inside_at, lower}

abbrev four : ℕ → ℕ
four n = suc (suc (suc (suc n)))

three : (c : ℕ) → 4 * c + 3 ≡ suc (suc (suc (4 * c)))
three c = omega arith

next : (c : ℕ) → 4 * suc c + 3 ≡ four (4 * c + 3)
next c = omega arith

pub fourth_read : (t : List ℕ) (c : ℕ) → get_or (fourths t) c 0 ≡ get_or t (4 * c + 3) 0
unfolding fourths
fourth_read [] c = refl
fourth_read (a ∷ []) c = rw (three c)
fourth_read (a ∷ b ∷ []) c = rw (three c)
fourth_read (a ∷ b ∷ x ∷ []) c = rw (three c)
fourth_read (a ∷ b ∷ x ∷ y ∷ t) zero = refl
fourth_read (a ∷ b ∷ x ∷ y ∷ t) (suc c) = rw (next c) (fourth_read t c)

pub fourth_set : (t : List ℕ) (c v : ℕ) → fourths (set t (4 * c + 3) v) ≡ set (fourths t) c v
unfolding fourths
fourth_set [] c v = refl
fourth_set (a ∷ []) c v = rw (three c)
fourth_set (a ∷ b ∷ []) c v = rw (three c)
fourth_set (a ∷ b ∷ x ∷ []) c v = rw (three c)
fourth_set (a ∷ b ∷ x ∷ y ∷ t) zero v = refl
fourth_set (a ∷ b ∷ x ∷ y ∷ t) (suc c) v = rw (next c) (ap (λ (l : List ℕ). y ∷ l) (fourth_set t c v))

pub plain_set : (t : List ℕ) (c v : ℕ) → plain (set t (4 * c + 3) v) ≡ plain t
unfolding plain
plain_set [] c v = refl
plain_set (a ∷ []) c v = rw (three c)
plain_set (a ∷ b ∷ []) c v = rw (three c)
plain_set (a ∷ b ∷ x ∷ []) c v = rw (three c)
plain_set (a ∷ b ∷ x ∷ y ∷ t) zero v = refl
plain_set (a ∷ b ∷ x ∷ y ∷ t) (suc c) v = rw (next c) (ap (λ (l : List ℕ). a ∷ b ∷ x ∷ 0 ∷ l) (plain_set t c v))

pub fourths_length : (t : List ℕ) → length (fourths t) ≡ length t / 4
unfolding fourths
fourths_length [] = refl
fourths_length (a ∷ []) = refl
fourths_length (a ∷ b ∷ []) = refl
fourths_length (a ∷ b ∷ x ∷ []) = refl
fourths_length (a ∷ b ∷ x ∷ y ∷ t) = omega (arith, fourths_length t)

-- prices stay
plain_low : (t : List ℕ) (c : ℕ) → get_or (plain t) (c * 4) 0 ≡ get_or t (c * 4) 0
unfolding plain
plain_low [] c = refl
plain_low (a ∷ []) c = refl
plain_low (a ∷ b ∷ []) c = refl
plain_low (a ∷ b ∷ x ∷ []) c = refl
plain_low (a ∷ b ∷ x ∷ y ∷ t) zero = refl
plain_low (a ∷ b ∷ x ∷ y ∷ t) (suc c) = let z : suc c * 4 ≡ four (c * 4) = omega arith in rw z (plain_low t c)

plain_high : (t : List ℕ) (c : ℕ) → get_or (plain t) (c * 4 + 1) 0 ≡ get_or t (c * 4 + 1) 0
unfolding plain
plain_high [] c = refl
plain_high (a ∷ []) c = refl
plain_high (a ∷ b ∷ []) c = refl
plain_high (a ∷ b ∷ x ∷ []) c = refl
plain_high (a ∷ b ∷ x ∷ y ∷ t) zero = refl
plain_high (a ∷ b ∷ x ∷ y ∷ t) (suc c) = let z : suc c * 4 + 1 ≡ four (c * 4 + 1) = omega arith in rw z (plain_high t c)

pub price_plain : (t : List ℕ) (d : Layout) (c : ℕ) → price_at (plain t) d c 0 ≡ price_at t d c 0
unfolding price_at entry_of
price_plain t d c = rw (plain_low t c, plain_high t c)

pub inside_plain : (t : List ℕ) (d : Layout) (c : ℕ) → inside_at (plain t) d c ≡ inside_at t d c
unfolding inside_at
inside_plain t d c = rw (price_plain t d c)

-- what is around the root, in zeros
pub zeros_read : (n c : ℕ) → get_or {A = ℕ} (replicate n 0) c 0 ≡ 0
zeros_read zero c = refl
zeros_read (suc n) zero = refl
zeros_read (suc n) (suc c) = zeros_read n c

pub lower_zeros : (n c : ℕ) → lower (replicate n 0) c 1 ≡ set (replicate n 0) c 1
unfolding lower lesser
lower_zeros n c = rw (zeros_read n c)

-- a number lowered in the table
pub lower_told : (t : List ℕ) (c x : ℕ) {n least : ℕ} {t' : List ℕ} → n ≡ get_or (fourths t) c 0 → least ≡ lesser n x → t'
    ≡ set t (4 * c + 3) (least % 4294967296)
    → (fourths t' ≡ lower (fourths t) c x) × (plain t' ≡ plain t)
unfolding lower
lower_told t c x {least = least} en el e =
    (ap fourths e ∙ fourth_set t c (least % 4294967296) ∙ rw (el, en), ap plain e ∙ plain_set t c (least % 4294967296))
