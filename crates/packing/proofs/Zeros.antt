-- A list whose first numbers are zeros: one more, and what stands behind some of them. Assumes nothing.
use mathlib.Core.Path.{◌≡◌, refl, ap, ◌∙◌}
use mathlib.Core.List.{List, ◌∷◌, ◌++◌}
use Prim.Native.Nat.{ℕ, zero, suc, ◌+◌, ◌-◌, ◌≤◌, ◌<◌}
use native.Mathlib.Numerals.{add-one}
use native.Mathlib.Omega.{arith}
use lib.ListN.{length, get_or, set, drop, replicate, length-replicate}
use lib.Seq.{drop-cons, set_at}

zero_behind : (n : ℕ) (l : List ℕ) → replicate n 0 ++ 0 ∷ l ≡ replicate (suc n) 0 ++ l
zero_behind zero l = refl
zero_behind (suc n) l = ap (λ (r : List ℕ). 0 ∷ r) (zero_behind n l)

pub zeros_more : (l : List ℕ) (n : ℕ) → n < length l → set (replicate n 0 ++ drop n l) n 0 ≡ replicate (n + 1) 0 ++ drop (n + 1) l
zeros_more l n h =
    rw (add-one n)
    (ap (λ (r : List ℕ). set (replicate n 0 ++ r) n 0) (drop-cons l n 0 h)
    ∙ set_at (replicate n 0) (get_or l n 0) (drop (suc n) l) 0 n (length-replicate n 0)
    ∙ zero_behind n (drop (suc n) l))

pub zeros_drop : (m n : ℕ) (l : List ℕ) → m ≤ n → drop m (replicate n 0 ++ l) ≡ replicate (n - m) 0 ++ l
zeros_drop zero n l h = let z : n - 0 ≡ n = omega arith in rw z
zeros_drop (suc m) zero l h = absurd (omega arith)
zeros_drop (suc m) (suc n) l h = let z : suc n - suc m ≡ n - m = omega arith in rw z (zeros_drop m n l (omega arith))

-- zeros in front of bytes are bytes
pub zeros_below : (b n : ℕ) (l : List ℕ) → 0 < b → ((i : ℕ) → get_or l i 0 < b) → (i : ℕ) → get_or (replicate n 0 ++ l) i 0 < b
zeros_below b zero l h y i = y i
zeros_below b (suc n) l h y zero = h
zeros_below b (suc n) l h y (suc i) = zeros_below b n l h y i
