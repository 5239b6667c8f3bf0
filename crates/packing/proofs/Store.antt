-- Laws of numbers stored one after another. Assumes nothing.
use mathlib.Core.Path.{◌≡◌, refl, sym, ◌∙◌}
use mathlib.Core.List.{List, [], ◌∷◌, ◌++◌, append_assoc}
use Prim.Native.Nat.{ℕ, zero, suc, ◌+◌, ◌≤◌, ◌<◌}
use native.Mathlib.Nat.{add-zero}
use native.Mathlib.Numerals.{add-one}
use native.Mathlib.Omega.{arith}
use lib.ListN.{length, set, take, drop, length-append, length-set, take-append-drop}
use lib.Seq.{take-suc-set}
use Rattle.packing.specs.Store.{store_all}

pub length_store : (array : List ℕ) (at : ℕ) (l : List ℕ) → length (store_all array at l) ≡ length array
unfolding store_all
length_store array at [] = refl
length_store array at (x ∷ l) = length_store (set array at x) (at + 1) l ∙ simp length-set

-- first some, then others
pub store_append : (array : List ℕ) (at : ℕ) (l m : List ℕ) → store_all array at (l ++ m) ≡ store_all (store_all array at l) (at + length l) m
unfolding store_all
store_append array at [] m = rw add-zero
store_append array at (x ∷ l) m =
    let e : at + suc (length l) ≡ at + 1 + length l = omega arith in
    rw e (store_append (set array at x) (at + 1) l m)

drop_set : (array : List ℕ) (i j x : ℕ) → i < j → drop j (set array i x) ≡ drop j array
drop_set [] i j x h = refl
drop_set (y ∷ array) i zero x h = absurd (omega arith)
drop_set (y ∷ array) zero (suc j) x h = refl
drop_set (y ∷ array) (suc i) (suc j) x h = drop_set array i j x (omega arith)

-- what stands before, the numbers, and what stands behind
pub store_at : (array : List ℕ) (at : ℕ) (l : List ℕ) → at + length l ≤ length array → store_all array at l ≡ take at array ++ (l ++ drop (at + length l) array)
unfolding store_all
store_at array at [] h = rw add-zero (sym (take-append-drop at array))
store_at array at (x ∷ l) h =
    let e : at + suc (length l) ≡ at + 1 + length l = omega arith in
    rw e (store_at (set array at x) (at + 1) l (simp length-set (omega arith))
    ∙ rw (drop_set array at (at + 1 + length l) x (omega arith), add-one at, take-suc-set array at x (omega arith), append_assoc))

-- two lists stored one behind the other are one
pub stored_next : (array : List ℕ) (at : ℕ) (l m : List ℕ) {behind-l behind : List ℕ} {middle end : ℕ}
    → behind-l ≡ store_all array at l → middle ≡ at + length l → behind ≡ store_all behind-l middle m → end ≡ middle + length m
    → (behind ≡ store_all array at (l ++ m)) × (end ≡ at + length (l ++ m))
stored_next array at l m e f g h =
    let n : length (l ++ m) ≡ length l + length m = length-append l m in
    (g ∙ rw (e, f) (sym (store_append array at l m)), omega arith)
