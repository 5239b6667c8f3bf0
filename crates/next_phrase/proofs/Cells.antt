-- A cell keeps, of the strings with a property, the part w itself, the least above it and the least: what a word, and what two parts'
-- cells joined, add to it. A string is above a joined one if its left part is above, or if its left part is the same and its right part is
-- above. Assumes nothing.
use mathlib.Core.Path.{◌≡◌, refl, sym, ◌∙◌}
use mathlib.Core.Logic.{◌⊎◌, inl, inr, ⊎_elim}
use mathlib.Core.List.{List, [], ◌∷◌, ◌++◌}
use Prim.Native.Nat.{ℕ, suc, ◌-◌, ◌*◌, ◌≤◌, ◌<◌, compare, Ordering}
use native.Mathlib.Omega.{arith}
use borrow.Author.Tests.{eq-eqb, ne_eqb, lt-ltb, le-ltb}
use lib.ListN.{length}
use Rattle.derivation.specs.Order.{◌▸◌}
use Rattle.derivation.proofs.Comparison.{
  lt≢eq,
  lt≢gt,
  eq≢gt,
  compare_lt,
  compare_gt,
  compare_below,
  compare_same,
  compare_lawful,
  turn_gt,
  ▸-eq,
  ▸-lt,
  ▸-first,
  ▸-second,
  ▸-gt,
}
use Rattle.phrases.specs.Phrases.{word_order, Precedes}
use Rattle.phrases.specs.Numbers.{scale, no_number, lesser}
use Rattle.phrases.proofs.Order.{order_lawful, order_join}
use Rattle.phrases.proofs.Least.{Property, Joined}
use Rattle.phrases.proofs.Cell.{Adds}
use Rattle.phrases.proofs.Numbers.{Kept, kept_none, kept_same, kept_lesser, kept_capped, kept_word, kept_sum}
use Rattle.next_phrase.specs.Table.{sum, with_joined, with_word}
use Rattle.next_phrase.specs.declared.Cell.{Cell}

-- t is w, in the order
abbrev pub Same : List ℕ → Property
Same w t = word_order w t ≡ Ordering.eq

abbrev pub Holds : ℕ → List ℕ → Property → Cell → Type 0
Holds r w P c = Kept r (λ t. P t × Same w t) c.same × Kept r (λ t. P t × Precedes w t) c.above × Kept r P c.least

pub holds_same : (r : ℕ) (w : List ℕ) (P Q : Property) (c : Cell) → ((t : List ℕ) → P t → Q t) → ((t : List ℕ) → Q t → P t) → Holds r w P c → Holds r w Q c
holds_same r w P Q c f h (a, b, d) = (
  kept_same (λ t z. (f t z.0, z.1)) (λ t z. (h t z.0, z.1)) a,
  kept_same (λ t z. (f t z.0, z.1)) (λ t z. (h t z.0, z.1)) b,
  kept_same f h d,
)

pub holds_at : (r : ℕ) (w : List ℕ) (P : Property) {c d : Cell} → d ≡ c → Holds r w P c → Holds r w P d
holds_at r w P e k = rw e k

pub holds_none : (r : ℕ) (w : List ℕ) (P : Property) (c : Cell) → ((t : List ℕ) → P t → ⊥) → no_number ≤ c.same → no_number ≤ c.above → no_number ≤ c.least
    → Holds r w P c
holds_none r w P c f a b d = (kept_none (λ t z. f t z.0) a, kept_none (λ t z. f t z.0) b, kept_none f d)

-- further strings R, of which those with the property X are kept
module _ {r : ℕ} {P X R : Property} {a : ℕ} (k : Kept r (λ t. P t × X t) a) where
  kept_not : ((t : List ℕ) → R t → X t → ⊥) → Kept r (λ t. (P t ⊎ R t) × X t) a
  kept_not f = kept_same (λ t z. (inl z.0, z.1)) (λ t (z, x). (⊎_elim (λ p. p) (λ y. absurd (f t y x)) z, x)) k

  module _ {Q : Property} {b : ℕ} (l : Kept r Q b) where
    kept_more : ((t : List ℕ) → Q t → R t × X t) → ((t : List ℕ) → R t → X t → Q t) → Kept r (λ t. (P t ⊎ R t) × X t) (lesser b a)
    kept_more f h =
        kept_same (λ t. ⊎_elim (λ z. (inl z.0, z.1)) (λ q. (inr (f t q).0, (f t q).1)))
        (λ t (z, x). ⊎_elim (λ p. inl (p, x)) (λ y. inr (h t y x)) z) (kept_lesser k l)

    kept_two : {Q' : Property} {c : ℕ} → Kept r Q' c → ((t : List ℕ) → Q t → R t × X t) → ((t : List ℕ) → Q' t → R t × X t)
        → ((t : List ℕ) → R t → X t → Q t ⊎ Q' t) → Kept r (λ t. (P t ⊎ R t) × X t) (lesser c (lesser b a))
    kept_two m f f' h =
        kept_same (λ t. ⊎_elim (⊎_elim (λ z. (inl z.0, z.1)) (λ q. (inr (f t q).0, (f t q).1))) (λ q. (inr (f' t q).0, (f' t q).1)))
        (λ t (z, x). ⊎_elim (λ p. inl (inl (p, x))) (λ y. ⊎_elim (λ q. inl (inr q)) inr (h t y x)) z) (kept_lesser (kept_lesser k l) m)

-- a word x where w has y
module _ (r y x : ℕ) where
  adds_greater : y < x → Adds (Holds (suc r) (y ∷ [])) (λ t. t ≡ x ∷ []) (with_word (x * scale r) y x)
  unfolding with_word word_order
  adds_greater h P c (a, b, d) =
      let n : x ≡ y → ⊥ = λ e. omega arith in
      let p : Precedes (y ∷ []) (x ∷ []) = ▸-first _ _ (compare_lt y x h) in
      rw (ne_eqb x y n, lt-ltb y x h) (
        kept_not a (λ t e z. lt≢eq (sym p ∙ rw e at z)),
        kept_more b (kept_word r x) (λ t e. (e, rw e p)) (λ t e z. e),
        kept_lesser d (kept_word r x),
      )

  adds_equal : x ≡ y → Adds (Holds (suc r) (y ∷ [])) (λ t. t ≡ x ∷ []) (with_word (x * scale r) y x)
  unfolding with_word
  adds_equal h P c (a, b, d) =
      let p : Same (y ∷ []) (x ∷ []) = rw h (order_lawful.self (y ∷ [])) in
      rw (eq-eqb x y h) (
        kept_more a (kept_word r x) (λ t e. (e, rw e p)) (λ t e z. e),
        kept_not b (λ t e z. lt≢eq (sym (rw e at z) ∙ p)),
        kept_lesser d (kept_word r x),
      )

  adds_lesser : x < y → Adds (Holds (suc r) (y ∷ [])) (λ t. t ≡ x ∷ []) (with_word (x * scale r) y x)
  unfolding with_word word_order
  adds_lesser h P c (a, b, d) =
      let n : x ≡ y → ⊥ = λ e. omega arith in
      let p : word_order (y ∷ []) (x ∷ []) ≡ Ordering.gt = ▸-gt _ _ (compare_gt y x h) in
      rw (ne_eqb x y n, le-ltb y x (omega arith)) (
        kept_not a (λ t e z. eq≢gt (sym (rw e at z) ∙ p)),
        kept_not b (λ t e z. lt≢gt (sym (rw e at z) ∙ p)),
        kept_lesser d (kept_word r x),
      )

  pub adds_word : Adds (Holds (suc r) (y ∷ [])) (λ t. t ≡ x ∷ []) (with_word (x * scale r) y x)
  adds_word = go (compare x y) refl
    where
      go : (o : Ordering) → compare x y ≡ o → Adds (Holds (suc r) (y ∷ [])) (λ t. t ≡ x ∷ []) (with_word (x * scale r) y x)
      go Ordering.lt e = adds_lesser (compare_below x y e)
      go Ordering.eq e = adds_equal (compare_same x y e)
      go Ordering.gt e = adds_greater (compare_below y x (turn_gt compare_lawful x y e))

-- two parts' strings joined
module _ (r j : ℕ) (h : j ≤ r) (w w' : List ℕ) (size : length w ≡ j) {P : Property} (sized : (t : List ℕ) → P t → length t ≡ j) where
  kept_joined : {P' Q' : Property} {a b : ℕ} → ((t : List ℕ) → P' t → P t) → Kept r P' a → Kept (r - j) Q' b → Kept r (Joined P' Q') (sum a b)
  kept_joined f k l = kept_sum r j h (λ t p. sized t (f t p)) (kept_capped k) (kept_capped l)

  order_parts : (us vs : List ℕ) → P us → word_order (w ++ w') (us ++ vs) ≡ word_order w us ▸ word_order w' vs
  order_parts us vs p = order_join w us w' vs (size ∙ sym (sized us p))

  pub adds_joined : {Q : Property} (b c : Cell) → Holds r w P b → Holds (r - j) w' Q c → Adds (Holds r (w ++ w')) (Joined P Q) (with_joined b c)
  unfolding with_joined ◌▸◌
  adds_joined b c (bs, ba, bl) (cs, ca, cl) R best (s, a, l) = (
    kept_more s (kept_joined (λ t z. z.0) bs cs)
        (λ t (us, vs, (p, x), (q, y), e). ((us, vs, p, q, e), rw (e, order_parts us vs p, x) y))
        (λ t (us, vs, p, q, e) z. let (x, y) = ▸-eq _ _ (sym (order_parts us vs p) ∙ rw e at z) in (us, vs, (p, x), (q, y), e)),
    kept_two a (kept_joined (λ t z. z.0) bs ca) (kept_joined (λ t z. z.0) ba cl)
        (λ t (us, vs, (p, x), (q, y), e). ((us, vs, p, q, e), rw (e, order_parts us vs p) (▸-second _ _ x y)))
        (λ t (us, vs, (p, x), q, e). ((us, vs, p, q, e), rw (e, order_parts us vs p) (▸-first _ _ x)))
        (λ t (us, vs, p, q, e) z. ⊎_elim (λ x. inr (us, vs, (p, x), q, e)) (λ (x, y). inl (us, vs, (p, x), (q, y), e))
        (▸-lt _ _ (sym (order_parts us vs p) ∙ rw e at z))),
    kept_lesser l (kept_joined (λ t z. z) bl cl),
  )
