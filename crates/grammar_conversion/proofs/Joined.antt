-- Rows stored one after another. Assumes nothing.
use mathlib.Core.Path.{◌≡◌, sym}
use mathlib.Core.List.{List, [], ◌∷◌, ◌++◌}
use Prim.Native.Nat.{ℕ, suc, ◌+◌, ◌-◌, ◌*◌, ◌≤◌, ◌<◌}
use native.Mathlib.Numerals.{add-one}
use native.Mathlib.Omega.{arith}
use lib.ListN.{length, get_or, set, take, drop}
use lib.Seq.{drop-cons}
use Rattle.arrays.proofs.Stored.{part_stored}
use Rattle.packing.specs.Store.{store_all}
use Rattle.packing.proofs.Store.{store_append}
use Rattle.sheet_writer.specs.Arrays.{marked_row, marked_rows}

-- a rule's numbers and its mark, stored one behind the other
five : (l : List ℕ) (p : ℕ) → p + 5 ≤ length l
    → take 5 (drop p l) ≡ get_or l p 0 ∷ get_or l (p + 1) 0 ∷ get_or l (p + 2) 0 ∷ get_or l (p + 3) 0 ∷ get_or l (p + 4) 0 ∷ []
five l p h =
    let s1 : suc p ≡ p + 1 = omega arith in
    let s2 : suc (p + 1) ≡ p + 2 = omega arith in
    let s3 : suc (p + 2) ≡ p + 3 = omega arith in
    let s4 : suc (p + 3) ≡ p + 4 = omega arith in
    let e0 : drop p l ≡ get_or l p 0 ∷ drop (p + 1) l = rw s1 at (drop-cons l p 0 (omega arith)) in
    let e1 : drop (p + 1) l ≡ get_or l (p + 1) 0 ∷ drop (p + 2) l = rw s2 at (drop-cons l (p + 1) 0 (omega arith)) in
    let e2 : drop (p + 2) l ≡ get_or l (p + 2) 0 ∷ drop (p + 3) l = rw s3 at (drop-cons l (p + 2) 0 (omega arith)) in
    let e3 : drop (p + 3) l ≡ get_or l (p + 3) 0 ∷ drop (p + 4) l = rw s4 at (drop-cons l (p + 3) 0 (omega arith)) in
    rw (e0, e1, e2, e3, drop-cons l (p + 4) 0 (omega arith))

pub row_stored : (l marks joined : List ℕ) (r : ℕ) → 5 * r + 5 ≤ length l → 6 * r + 6 ≤ length joined
    → {copied : List ℕ} → copied ≡ take 5 (drop (5 * r) l)
    → set (take (6 * r) joined ++ (copied ++ drop 5 (drop (6 * r) joined))) (6 * r + 5) (get_or marks r 0) ≡ store_all joined (6 * r) (marked_row l marks r)
unfolding store_all
row_stored l marks joined r h room {copied} e =
    let row : List ℕ = get_or l (5 * r) 0 ∷ get_or l (5 * r + 1) 0 ∷ get_or l (5 * r + 2) 0 ∷ get_or l (5 * r + 3) 0 ∷ get_or l (5 * r + 4) 0 ∷ [] in
    rw (e, five l (5 * r) h, part_stored joined (6 * r) row (omega arith)) (sym (store_append joined (6 * r) row (get_or marks r 0 ∷ [])))

module _ (l marks : List ℕ) (n : ℕ) where
  -- what is left of n rows is stored behind the first i
  abbrev pub Left : List ℕ → ℕ → List ℕ
  Left a i = store_all a (6 * i) (marked_rows l marks i (n - i))

  pub rows_start : (a : List ℕ) → Left a 0 ≡ store_all a 0 (marked_rows l marks 0 n)
  rows_start a =
      let z : n - 0 ≡ n = omega arith in
      let s : 6 * 0 ≡ 0 = omega arith in
      rw (z, s)

  pub rows_turn : (i : ℕ) → i < n → (a : List ℕ) {after : List ℕ} → after ≡ store_all a (6 * i) (marked_row l marks i) → Left after (i + 1) ≡ Left a i
  unfolding marked_rows
  rows_turn i h a e =
      let z : n - i ≡ suc (n - (i + 1)) = omega arith in
      let s : 6 * (i + 1) ≡ 6 * i + 6 = omega arith in
      rw (z, s, e, add-one i) (sym (store_append a (6 * i) (marked_row l marks i) (marked_rows l marks (suc i) (n - suc i))))

  pub rows_end : (i : ℕ) → n ≤ i → (a : List ℕ) → Left a i ≡ a
  unfolding marked_rows store_all
  rows_end i h a = let z : n - i ≡ 0 = omega arith in rw z
