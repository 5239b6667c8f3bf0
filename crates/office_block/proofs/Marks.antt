-- The array of marks: zeros, and ones from the office's last rule on. Assumes nothing.
use mathlib.Core.Path.{◌≡◌, refl, sym, ap, ◌∙◌}
use mathlib.Core.List.{List, [], ◌∷◌, ◌++◌, map, append_assoc}
use Prim.Native.Nat.{ℕ, zero, suc, ◌+◌, ◌-◌, ◌≤◌, ◌<◌}
use native.Mathlib.Omega.{arith}
use lib.ListN.{length, set, take, drop, replicate, length-replicate, length-drop}
use lib.Seq.{take-append_seam, length-take-le, drop-drop}
use borrow.Rule.Slice.PartMut.{put_mid}
use Rattle.packing.specs.Flat.{Begins}
use Rattle.packing.specs.Store.{store_all}
use Rattle.packing.proofs.Store.{store_at}
use Rattle.office.specs.Office.{Office}
use Rattle.office.specs.Conversion.{helpers, marks}

-- ones from place i up to place n
abbrev pub Left : ℕ → List ℕ → ℕ → List ℕ
Left n a i = store_all a i (replicate (n - i) 1)

-- filled in at once
pub ones_put : (a : List ℕ) (i n : ℕ) {z : List ℕ} → i ≤ n → n ≤ length a → z ≡ replicate (length (take (n - i) (drop i a))) 1
    → put_mid i (n - i) a z ≡ Left n a i
ones_put a i n {z} l h e =
    let ones : List ℕ = replicate (n - i) 1 in
    let room : n - i ≤ length (drop i a) = rw (length-drop i a) (omega arith) in
    let all : z ≡ ones = rw (length-take-le (n - i) (drop i a) room) at e in
    let size : length ones ≡ n - i = length-replicate (n - i) 1 in
    rw (all, store_at a i ones (omega arith), size, drop-drop)

zeros : (n m : ℕ) → n ≤ m → take {A = ℕ} n (replicate m 0) ≡ replicate n 0
zeros zero m h = refl
zeros (suc n) zero h = absurd (omega arith)
zeros (suc n) (suc m) h = ap (λ (l : List ℕ). 0 ∷ l) (zeros n m (omega arith))

all_one : {A : Type 0} (l : List A) (x : ℕ) → map (λ y. x) l ≡ replicate (length l) x
all_one [] x = refl
all_one (y ∷ l) x = ap (λ (m : List ℕ). x ∷ m) (all_one l x)

-- in an array of m zeros
pub marks_stand : (o : Office) (m n : ℕ) → n ≡ length o.rules + length (helpers o) → n ≤ m → {array : List ℕ}
    → array ≡ Left n (replicate m 0) (length o.rules) → Begins (marks o) array
unfolding marks
marks_stand o m n e h {array} w =
    let R = length o.rules in
    let K = length (helpers o) in
    let k : n - R ≡ K = omega arith in
    let zero_marks : List ℕ = replicate R 0 in
    let one_marks : List ℕ = replicate K 1 in
    let all : List ℕ = replicate m 0 in
    let ones : length one_marks ≡ K = length-replicate K 1 in
    let whole : length all ≡ m = length-replicate m 0 in
    let rest : List ℕ = drop (R + length one_marks) all in
    let stored : array ≡ (zero_marks ++ one_marks) ++ rest =
    w ∙ ap (λ (j : ℕ). store_all all R (replicate j 1)) k ∙ store_at all R one_marks (omega arith)
    ∙ ap (λ (l : List ℕ). l ++ (one_marks ++ rest)) (zeros R m (omega arith)) ∙ sym (append_assoc zero_marks one_marks rest) in
    rw (all_one o.rules 0, all_one (helpers o) 1, stored) (take-append_seam (zero_marks ++ one_marks) rest)
