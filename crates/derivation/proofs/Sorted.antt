-- Lists that ascend under a lawful comparison: `sort` makes one of the same members, its members decide it, and its elements
-- compare as their numbers do.
-- So two lists without repetitions and of the same members have one length: sorted, they are one list.
use mathlib.Core.Path.{◌≡◌, refl, sym, ap, ◌∙◌}
use mathlib.Core.Logic.{◌⊎◌, inl, inr, ⊎_elim, ◌↔◌}
use mathlib.Core.List.Memᴰ
use mathlib.Core.List.{List, [], ◌∷◌}
use Prim.Native.Nat.compare
use Prim.Native.Nat.{
  ℕ,
  zero,
  suc,
  compare,
  Ordering,
}
use lib.ListN.{length, take}
use Rattle.derivation.specs.Derivation.{At}
use Rattle.derivation.specs.Rank.{◌∈◌, Distinct, Number}
use Rattle.derivation.specs.List.{insert_by, insert, sort}
use Rattle.derivation.proofs.Comparison.{Lawful, turned, turn_gt, lt≢eq}
use Rattle.derivation.proofs.Lists.{at_mem, mem_of_take, none≢some}

module _ {A : Type 0} (cmp : A → A → Ordering) where
  abbrev pub Ascending : List A → Type 0
  Ascending [] = Unit {0}
  Ascending (x ∷ l) = ((y : A) → y ∈ l → cmp x y ≡ Ordering.lt) × Ascending l

module _ {A : Type 0} {cmp : A → A → Ordering} (law : Lawful cmp) where
  -- never before itself, never both ways
  not_self : (x : A) → cmp x x ≡ Ordering.lt → ⊥
  not_self x e = lt≢eq (sym e ∙ law.self x)

  apart : (x z : A) → cmp x z ≡ Ordering.lt → z ≡ x → ⊥
  apart x z h e = not_self x (rw e at h)

  not_both : (x y : A) → cmp x y ≡ Ordering.lt → cmp y x ≡ Ordering.lt → ⊥
  not_both x y p q = not_self x (law.chain x y x p q)

  turn_lt : (x y : A) → cmp x y ≡ Ordering.lt → cmp y x ≡ Ordering.gt
  unfolding turned
  turn_lt x y e = law.turn x y ∙ ap turned e

  -- the members of a sorted list
  place_mem : (x : A) (l : List A) (z : A) → z ∈ insert cmp x l ↔ ((z ≡ x) ⊎ (z ∈ l))
  unfolding insert
  place_mem x [] z = (Memᴰ.cases_cons, λ m. elim m [ inl e ↦ Memᴰ.head e | inr n ↦ absurd (Memᴰ.not-nil n) ])
  place_mem x (y ∷ l) z = go (place_mem x l z) (cmp x y) refl
    where
      go : z ∈ insert cmp x l ↔ ((z ≡ x) ⊎ (z ∈ l)) → (o : Ordering) → cmp x y ≡ o → z ∈ insert_by o x y l (insert cmp x l)
          ↔ ((z ≡ x) ⊎ (z ∈ (y ∷ l)))
      go r Ordering.lt e = (Memᴰ.cases_cons, ⊎_elim Memᴰ.head Memᴰ.tail)
      go r Ordering.eq e = (inr, ⊎_elim (λ p. Memᴰ.head (p ∙ law.same x y e)) (λ m. m))
      go r Ordering.gt e = (
        (λ m. ⊎_elim (λ p. inr (Memᴰ.head p)) (λ n. ⊎_elim inl (λ k. inr (Memᴰ.tail k)) (r.0 n))
            (Memᴰ.cases_cons m)),
        ⊎_elim (λ p. Memᴰ.tail (r.1 (inl p))) (λ m. ⊎_elim Memᴰ.head (λ n. Memᴰ.tail (r.1 (inr n)))
            (Memᴰ.cases_cons m)),
      )

  pub sort_mem : (l : List A) (z : A) → z ∈ sort cmp l ↔ z ∈ l
  unfolding sort
  sort_mem [] z = ((λ m. m), (λ m. m))
  sort_mem (x ∷ l) z = (
    (λ m. ⊎_elim Memᴰ.head (λ n. Memᴰ.tail ((sort_mem l z).0 n)) ((place_mem x (sort cmp l) z).0 m)),
    (λ m. (place_mem x (sort cmp l) z).1 (⊎_elim inl (λ n. inr ((sort_mem l z).1 n)) (Memᴰ.cases_cons m))),
  )

  -- a sorted list ascends
  place_ascending : (x : A) (l : List A) → Ascending cmp l → Ascending cmp (insert cmp x l)
  unfolding insert
  place_ascending x [] a = ((λ y m. absurd (Memᴰ.not-nil m)), tt)
  place_ascending x (y ∷ l) a = go (place_ascending x l a.1) (cmp x y) refl
    where
      go : Ascending cmp (insert cmp x l) → (o : Ordering) → cmp x y ≡ o → Ascending cmp (insert_by o x y l (insert cmp x l))
      go r Ordering.lt e = ((λ z m. ⊎_elim (λ p. rw p e) (λ n. law.chain x y z e (a.0 z n)) (Memᴰ.cases_cons m)), a)
      go r Ordering.eq e = a
      go r Ordering.gt e = ((λ z m. ⊎_elim (λ p. rw p (turn_gt law x y e)) (a.0 z) ((place_mem x l z).0 m)), r)

  pub sort_ascending : (l : List A) → Ascending cmp (sort cmp l)
  unfolding sort
  sort_ascending [] = tt
  sort_ascending (x ∷ l) = place_ascending x (sort cmp l) (sort_ascending l)

  pub ascending_distinct : (l : List A) → Ascending cmp l → Distinct l
  ascending_distinct [] a = tt
  ascending_distinct (x ∷ l) a = ((λ m. not_self x (a.0 x m)), ascending_distinct l a.1)

  -- the order of the elements is that of their numbers
  pub at_order : (l : List A) (i j : ℕ) (x y : A) → Ascending cmp l → At l i x → At l j y → cmp x y ≡ compare i j
  at_order [] i j x y a e f = absurd (none≢some e)
  at_order (z ∷ l) zero zero x y a e f = let p : x ≡ y = cc in rw (p, compare.zero-zero) (law.self y)
  at_order (z ∷ l) zero (suc j) x y a e f = let p : x ≡ z = cc in rw (p, compare.zero-suc) (a.0 y (at_mem l j f))
  at_order (z ∷ l) (suc i) zero x y a e f =
      let p : y ≡ z = cc in rw (p, compare.suc-zero) (turn_lt z x (a.0 x (at_mem l i e)))
  at_order (z ∷ l) (suc i) (suc j) x y a e f = at_order l i j x y a.1 e f ∙ sym (compare.suc-suc i j)

  -- the first k elements are those that come before element k
  pub take_ascending : (n : ℕ) (l : List A) → Ascending cmp l → Ascending cmp (take n l)
  take_ascending zero l a = tt
  take_ascending (suc n) [] a = tt
  take_ascending (suc n) (x ∷ l) a = ((λ y m. a.0 y (mem_of_take n l m)), take_ascending n l a.1)

  pub take_before : (l : List A) (k : ℕ) (y : A) → Ascending cmp l → At l k y → (z : A) → z ∈ take k l
      ↔ (z ∈ l × (cmp z y ≡ Ordering.lt))
  take_before [] k y a e z = absurd (none≢some e)
  take_before (x ∷ l) zero y a e z =
      let p : x ≡ y = cc in (
        (λ m. absurd (Memᴰ.not-nil m)),
        (λ m. absurd (⊎_elim (λ q. apart z y m.1 (sym (q ∙ p))) (λ n. not_both x z (a.0 z n) (rw p m.1))
            (Memᴰ.cases_cons m.0))),
      )
  take_before (x ∷ l) (suc k) y a e z =
      let r = take_before l k y a.1 e z in (
        (λ m. ⊎_elim (λ p. (Memᴰ.head p, rw p (a.0 y (at_mem l k e)))) (λ n. (Memᴰ.tail (r.0 n).0, (r.0 n).1))
            (Memᴰ.cases_cons m)),
        (λ m. ⊎_elim Memᴰ.head (λ n. Memᴰ.tail (r.1 (n, m.1))) (Memᴰ.cases_cons m.0)),
      )

  -- the members decide an ascending list
  members_decide : (l m : List A) → Ascending cmp l → Ascending cmp m → ((z : A) → z ∈ l → z ∈ m) → ((z : A) → z ∈ m → z ∈ l)
      → l ≡ m
  members_decide [] [] a b f g = refl
  members_decide [] (y ∷ m) a b f g = absurd (Memᴰ.not-nil (g y (Memᴰ.head refl)))
  members_decide (x ∷ l) [] a b f g = absurd (Memᴰ.not-nil (f x (Memᴰ.head refl)))
  members_decide (x ∷ l) (y ∷ m) a b f g =
      let e : x ≡ y = ⊎_elim (λ p. p) (λ n. ⊎_elim (λ q. sym q) (λ k. absurd (not_both x y (a.0 y k) (b.0 x n)))
      (Memᴰ.cases_cons (g y (Memᴰ.head refl)))) (Memᴰ.cases_cons (f x (Memᴰ.head refl))) in
      let down : (z : A) → z ∈ l → z ∈ m = λ z n. ⊎_elim (λ q. absurd (apart x z (a.0 z n) (q ∙ sym e))) (λ k. k)
      (Memᴰ.cases_cons (f z (Memᴰ.tail n))) in
      let up : (z : A) → z ∈ m → z ∈ l = λ z n. ⊎_elim (λ q. absurd (apart y z (b.0 z n) (q ∙ e))) (λ k. k)
      (Memᴰ.cases_cons (g z (Memᴰ.tail n))) in
      rw (e, members_decide l m a.1 b.1 down up)

  -- sorting a list without repetitions keeps its length
  place_length : (x : A) (l : List A) → ¬ (x ∈ l) → length (insert cmp x l) ≡ suc (length l)
  unfolding insert
  place_length x [] h = refl
  place_length x (y ∷ l) h = go (place_length x l (λ m. h (Memᴰ.tail m))) (cmp x y) refl
    where
      go : length (insert cmp x l) ≡ suc (length l) → (o : Ordering) → cmp x y ≡ o
          → length (insert_by o x y l (insert cmp x l)) ≡ suc (suc (length l))
      go r Ordering.lt e = refl
      go r Ordering.eq e = absurd (h (Memᴰ.head (law.same x y e)))
      go r Ordering.gt e = ap suc r

  sort_length : (l : List A) → Distinct l → length (sort cmp l) ≡ length l
  unfolding sort
  sort_length [] d = refl
  sort_length (x ∷ l) d = place_length x (sort cmp l) (λ m. d.0 ((sort_mem l x).0 m)) ∙ ap suc (sort_length l d.1)

  same_length : (l m : List A) → Distinct l → Distinct m → ((z : A) → z ∈ l ↔ z ∈ m) → length l ≡ length m
  same_length l m a b e =
      let same : sort cmp l ≡ sort cmp m = members_decide _ _ (sort_ascending l) (sort_ascending m)
      (λ z k. (sort_mem m z).1 ((e z).0 ((sort_mem l z).0 k)))
      (λ z k. (sort_mem l z).1 ((e z).1 ((sort_mem m z).0 k))) in
      sym (sort_length l a) ∙ ap length same ∙ sort_length m b

  -- so a property has one number
  pub number_one : {P : A → Type 0} {m n : ℕ} → Number P m → Number P n → m ≡ n
  number_one a b =
      sym a.number_is ∙ same_length a.elements b.elements a.once b.once
      (λ z. ((λ k. (b.those z).1 ((a.those z).0 k)), (λ k. (a.those z).1 ((b.those z).0 k)))) ∙ b.number_is
