-- A table made zeros in two parts: what stands behind its front, and then its front.
use mathlib.Core.Path.{◌≡◌, refl, ap}
use mathlib.Core.List.{List, [], ◌∷◌, ◌++◌, append-nil}
use Prim.Native.Nat.{ℕ, zero, suc, ◌+◌, ◌-◌, ◌≤◌}
use native.Mathlib.Nat.{le_refl}
use native.Mathlib.Omega.{arith}
use lib.ListN.{length, take, drop, replicate, length-drop, drop_of_length-le, replicate-append-replicate}
use lib.Seq.{length-take-le, drop_at}
use borrow.Rule.Slice.PartMut.{put_mid}

pub take_zeros : (k j : ℕ) → j ≤ k → take j (replicate {A = ℕ} k 0) ≡ replicate j 0
take_zeros k zero h = refl
take_zeros zero (suc j) h = absurd (omega arith)
take_zeros (suc k) (suc j) h = ap (λ (l : List ℕ). 0 ∷ l) (take_zeros k j (omega arith))

module _ (n : ℕ) (t : List ℕ) where
  -- zeros put behind the front stand there
  pub put_behind : {z : List ℕ} → n ≤ length t → z ≡ replicate (length (take (length t - n) (drop n t))) 0
      → drop n (put_mid n (length t - n) t z) ≡ replicate (length t - n) 0
  put_behind {z} fits e =
      let size : length t - n ≤ length (drop n t) = rw (length-drop n t) (le_refl (length t - n)) in
      let rest : drop (length t - n) (drop n t) ≡ [] = drop_of_length-le (drop n t) {i = length t - n} (rw (length-drop n t) (le_refl (length t - n))) in
      let all : z ≡ replicate (length t - n) 0 = rw (length-take-le (length t - n) (drop n t) size) at e in
      rw (rest, append-nil z, all) (drop_at (take n t) (replicate (length t - n) 0) n (length-take-le n t fits))

  -- behind a front that is longer than the table stands nothing
  pub none_behind : length t ≤ n → drop n t ≡ replicate (length t - n) 0
  none_behind short = let none : length t - n ≡ 0 = omega arith in rw (none, drop_of_length-le t {i = n} short)

  -- zeros in front of zeros
  pub front_zeros : {z : List ℕ} → n ≤ length t → z ≡ replicate (length (take n t)) 0 → drop n t ≡ replicate (length t - n) 0
      → z ++ drop n t ≡ replicate (length t) 0
  front_zeros fits e behind =
      let all : n + (length t - n) ≡ length t = omega arith in
      rw (e, length-take-le n t fits, behind, replicate-append-replicate {A = ℕ} n (length t - n) 0, all)
