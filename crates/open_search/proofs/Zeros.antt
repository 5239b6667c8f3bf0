-- Whether all numbers of a list are 0, and what is left of zeros.
use mathlib.Core.Path.{◌≡◌, refl, ap}
use mathlib.Core.Bool.{Bool, true, false, ◌&&◌, false≢true}
use mathlib.Core.List.{List, [], ◌∷◌}
use Prim.Native.Nat.{ℕ, zero, suc, ◌-◌}
use native.Mathlib.Numerals.{unary_clauses}
use native.Mathlib.Omega.{arith}
use borrow.Author.Tests.{eqb-true}
use lib.Dec.{eqb}
use lib.ListN.{length, drop, replicate}
use Rattle.open_search.specs.Model.{zeros}

pub zeros_are : (l : List ℕ) → zeros l ≡ true → l ≡ replicate (length l) 0
unfolding zeros
zeros_are [] e = refl
zeros_are (x ∷ l) e = go (zeros_are l) (eqb x 0) refl e
  where
    go : (zeros l ≡ true → l ≡ replicate (length l) 0) → (b : Bool) → eqb x 0 ≡ b → (b && zeros l) ≡ true → x ∷ l ≡ 0 ∷ replicate (length l) 0
    go rest true p q = rw (eqb-true x 0 p) (ap (λ (r : List ℕ). 0 ∷ r) (rest q))
    go rest false p q = absurd (false≢true q)

pub zeros_all : (n : ℕ) → zeros (replicate n 0) ≡ true
unfolding zeros
zeros_all zero = refl
zeros_all (suc n) = zeros_all n

pub drop_zeros : (k j : ℕ) → drop j (replicate {A = ℕ} k 0) ≡ replicate (k - j) 0
drop_zeros k zero = simp unary_clauses refl
drop_zeros zero (suc j) = let none : 0 ≡ 0 - suc j = omega arith in ap (λ (m : ℕ). replicate {A = ℕ} m 0) none
drop_zeros (suc k) (suc j) = simp unary_clauses (drop_zeros k j)
