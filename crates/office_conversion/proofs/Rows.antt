-- Rows stored behind rows: the rules' part of the array and the helpers' part do not meet.
use mathlib.Core.Path.{◌≡◌, refl, sym, ap, ◌∙◌}
use mathlib.Core.List.{List, [], ◌∷◌, ◌++◌}
use Prim.Native.Nat.{ℕ, suc, ◌+◌, ◌*◌, ◌≤◌}
use native.Mathlib.Omega.{arith}
use lib.ListN.{length, set}
use lib.Seq.{set_comm}
use Rattle.packing.specs.Store.{store_all}
use Rattle.packing.specs.declared.Rule as K
use Rattle.packing.specs.declared.Rule.TheVariants.{Pair, Word}
use Rattle.packing.proofs.Store.{store_append}
use Rattle.office.proofs.Steps.{helpers_length}
use Rattle.office.specs.Conversion.{Helper, helper_rules}
use Rattle.office_conversion.specs.Pass.{row_of, rows_of, Holds}

pub rows_append : (qs rs : List K.Rule) → rows_of (qs ++ rs) ≡ rows_of qs ++ rows_of rs
unfolding rows_of
rows_append [] rs = refl
rows_append (Pair h x y w ∷ qs) rs = rw (rows_append qs rs)
rows_append (Word h x w ∷ qs) rs = rw (rows_append qs rs)

pub length_rows : (rs : List K.Rule) → length (rows_of rs) ≡ 5 * length rs
unfolding rows_of
length_rows [] = refl
length_rows (Pair h x y w ∷ rs) = omega (arith, length_rows rs)
length_rows (Word h x w ∷ rs) = omega (arith, length_rows rs)

rows_one : (r : K.Rule) → rows_of (r ∷ []) ≡ row_of r
unfolding rows_of
rows_one (Pair h x y w) = refl
rows_one (Word h x w) = refl

helper_rules_append : (S m : ℕ) (hs gs : List Helper) → helper_rules S m (hs ++ gs) ≡ helper_rules S m hs ++ helper_rules S (m + length hs) gs
unfolding helper_rules
helper_rules_append S m [] gs = let z : m + 0 ≡ m = omega arith in rw z
helper_rules_append S m (h ∷ hs) gs =
    let z : m + suc (length hs) ≡ suc m + length hs = omega arith in
    rw (helper_rules_append S (suc m) hs gs, z)

set_past : (a : List ℕ) (p q x : ℕ) (l : List ℕ) → p + length l ≤ q → set (store_all a p l) q x ≡ store_all (set a q x) p l
unfolding store_all
set_past a p q x [] h = refl
set_past a p q x (y ∷ l) h =
    set_past (set a p y) (p + 1) q x l (omega arith)
    ∙ ap (λ (b : List ℕ). store_all b (p + 1) l) (set_comm a p q y x (λ e. omega arith))

pub store_swap : (a : List ℕ) (p q : ℕ) (l m : List ℕ) → p + length l ≤ q → store_all (store_all a p l) q m ≡ store_all (store_all a q m) p l
unfolding store_all
store_swap a p q l [] h = refl
store_swap a p q l (x ∷ m) h = rw (set_past a p q x l h) (store_swap (set a q x) p (q + 1) l m (omega arith))

module _ {S R : ℕ} {a : List ℕ} {hs : List Helper} {rs : List K.Rule} {t rules : List ℕ} {k : ℕ} (v : Holds S R a hs rs t rules k) where
  -- more helpers
  pub helpers_stored : (gs : List Helper) {new : List ℕ} → new ≡ store_all rules (5 * (R + k)) (rows_of (helper_rules S k gs))
      → new ≡ store_all (store_all a (5 * R) (rows_of (helper_rules S 0 (hs ++ gs)))) 0 (rows_of rs)
  helpers_stored gs e =
      let h = rows_of (helper_rules S 0 hs) in
      let g = rows_of (helper_rules S k gs) in
      let n : 0 + length (rows_of rs) ≤ 5 * (R + k) = omega (arith, length_rows rs, v.few) in
      let m : 5 * (R + k) ≡ 5 * R + length h = omega (arith, length_rows (helper_rules S 0 hs), helpers_length S 0 hs, v.count) in
      let z : 0 + length hs ≡ k = omega (arith, v.count) in
      let both : rows_of (helper_rules S 0 (hs ++ gs)) ≡ h ++ g = rw (helper_rules_append S 0 hs gs, rows_append, z) in
      e ∙ rw (v.array, store_swap (store_all a (5 * R) h) 0 (5 * (R + k)) (rows_of rs) g n, m, both, store_append a (5 * R) h g)

  -- one more rule
  pub rule_stored : (r : K.Rule) (i : ℕ) → i ≡ length rs → {new : List ℕ} → new ≡ store_all rules (5 * i) (row_of r)
      → new ≡ store_all (store_all a (5 * R) (rows_of (helper_rules S 0 hs))) 0 (rows_of (rs ++ (r ∷ [])))
  rule_stored r i h e =
      let b = store_all a (5 * R) (rows_of (helper_rules S 0 hs)) in
      let n : 5 * i ≡ 0 + length (rows_of rs) = omega (arith, length_rows rs) in
      e ∙ rw (v.array, rows_append rs (r ∷ []), rows_one r, n) (sym (store_append b 0 (rows_of rs) (row_of r)))
