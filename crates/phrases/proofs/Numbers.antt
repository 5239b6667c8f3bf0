-- Strings as numbers: joined strings are sums, and the order of strings of one length is that of their numbers. A number keeps the least
-- string with a property if none has a lesser number, and one has this number or it stands for none; so the lesser of two numbers, and
-- their sum, keep the least of either and of both joined. Assumes nothing.
use mathlib.Core.Path.{◌≡◌, refl, sym, ◌∙◌}
use mathlib.Core.Logic.{◌⊎◌, inl, inr, ⊎_elim}
use mathlib.Core.Bool.{Bool, true, false}
use mathlib.Core.Option.{none}
use mathlib.Core.List.{List, [], ◌∷◌, ◌++◌}
use Prim.Native.Nat.{ℕ, zero, suc, ◌+◌, ◌-◌, ◌*◌, ◌^◌, ◌≤◌, ◌<◌, Ordering}
use native.Mathlib.Nat.{zero-add, add_assoc, add-mul, one-mul, mul-le-mul_right, mul-add, mul_left_comm}
use native.Mathlib.Omega.{arith}
use borrow.Author.Tests.{ltb-true, ltb-false}
use lib.Dec.{ltb}
use lib.ListN.{length}
use lib.Pow.{pow-add}
use Rattle.bits.specs.Bits.{pick}
use Rattle.derivation.proofs.Comparison.{lt≢eq, compare_below, compare_same, turn_gt, ▸-lt}
use Rattle.phrases.specs.Phrases.{word_order, Precedes, Least}
use Rattle.phrases.specs.Numbers.{scale, placed, no_number, lesser, Bytes}
use Rattle.phrases.proofs.Order.{order_lawful}
use Rattle.phrases.proofs.Least.{Property, LeastOrNone, nothing, Joined}
use Rattle.phrases.proofs.Enumeration.{Below}

-- scales are powers of 2, as a shift has them
pub scale_power : (r : ℕ) → 2 ^ (8 * r) ≡ scale r
unfolding scale
scale_power zero = refl
scale_power (suc r) = let e : 8 * suc r ≡ 8 + 8 * r = omega arith in rw (e, pow-add 2 8 (8 * r), scale_power r)

placed_join : (r : ℕ) (us vs : List ℕ) → length us ≤ r → placed r (us ++ vs) ≡ placed r us + placed (r - length us) vs
unfolding placed
placed_join r [] vs h = let e : r - 0 ≡ r = omega arith in rw (e, zero-add)
placed_join zero (x ∷ us) vs h = absurd (omega arith)
placed_join (suc r) (x ∷ us) vs h =
    let e : suc r - suc (length us) ≡ r - length us = omega arith in
    rw (e, placed_join r us vs (omega arith)) (sym (add_assoc (x * scale r) (placed r us) (placed (r - length us) vs)))

pub below_bytes : (W : ℕ) → W ≤ 256 → (t : List ℕ) → Below W t → Bytes t
below_bytes W h [] b = tt
below_bytes W h (x ∷ t) (l, b) = (omega arith, below_bytes W h t b)

-- a word fewer, and all below it
scale_more : (r x y : ℕ) → x < y → x * scale r + scale r ≤ y * scale r
scale_more r x y h =
    let k : (x + 1) * scale r ≤ y * scale r = mul-le-mul_right (scale r) (omega arith) in
    rw (add-mul x 1 (scale r), one-mul) at k

pub placed_under : (r : ℕ) (t : List ℕ) → length t ≤ r → Bytes t → placed r t < scale r
unfolding placed scale
placed_under zero [] h b = omega arith
placed_under (suc r) [] h b = let k = placed_under r [] (omega arith) tt in omega arith
placed_under zero (x ∷ t) h b = absurd (omega arith)
placed_under (suc r) (x ∷ t) h (b, bs) =
    let k = placed_under r t (omega arith) bs in
    let m = scale_more r x 256 b in
    omega arith

-- a place further to the left
pub placed_shift : (r : ℕ) (t : List ℕ) → length t ≤ r → placed (suc r) t ≡ 256 * placed r t
unfolding placed scale
placed_shift r [] h = refl
placed_shift zero (x ∷ t) h = absurd (omega arith)
placed_shift (suc r) (x ∷ t) h =
    rw (placed_shift r t (omega arith), mul-add 256 (x * scale r) (placed r t), mul_left_comm x 256 (scale r))

-- the order is that of the numbers
placed_order : (r : ℕ) (s t : List ℕ) → length s ≡ length t → length s ≤ r → Bytes s → Precedes s t → placed r s < placed r t
unfolding word_order placed
placed_order r [] [] e h b p = absurd (lt≢eq (sym p))
placed_order r [] (y ∷ t) e h b p = absurd (omega arith)
placed_order r (x ∷ s) [] e h b p = absurd (omega arith)
placed_order zero (x ∷ s) (y ∷ t) e h b p = absurd (omega arith)
placed_order (suc r) (x ∷ s) (y ∷ t) e h (b, bs) p =
    ⊎_elim
    (λ z. let l = scale_more r x y (compare_below x y z) in let k = placed_under r s (omega arith) bs in omega arith)
    (λ z. let l = placed_order r s t (omega arith) (omega arith) bs z.1 in rw (compare_same x y z.0) (omega arith)) (▸-lt _ _ p)

placed_least : (r : ℕ) (s t : List ℕ) → length s ≡ length t → length t ≤ r → Bytes t → placed r s ≤ placed r t → (t ≡ s) ⊎ Precedes s t
placed_least r s t e h b l = go (word_order s t) refl
  where
    go : (o : Ordering) → word_order s t ≡ o → (t ≡ s) ⊎ Precedes s t
    go Ordering.lt p = inr p
    go Ordering.eq p = inl (sym (order_lawful.same s t p))
    go Ordering.gt p = absurd (let k = placed_order r t s (sym e) h b (turn_gt order_lawful s t p) in omega arith)

-- c keeps the least string with the property P that begins where r places are left
pub record Kept (r : ℕ) (P : Property) (c : ℕ) : Type 0 where
  pub under : (t : List ℕ) → P t → c ≤ placed r t
  pub reached : (no_number ≤ c) ⊎ ((t : List ℕ) × P t × (c ≡ placed r t))

pub kept_none : {r : ℕ} {P : Property} {c : ℕ} → ((t : List ℕ) → P t → ⊥) → no_number ≤ c → Kept r P c
kept_none f h = record { under = λ t p. absurd (f t p); reached = inl h }

pub kept_same : {r : ℕ} {P Q : Property} {c : ℕ} → ((t : List ℕ) → P t → Q t) → ((t : List ℕ) → Q t → P t) → Kept r P c → Kept r Q c
kept_same f h k = record { under = λ t q. k.under t (h t q); reached = ⊎_elim inl (λ z. inr (z.0, f z.0 z.1, z.2)) k.reached }

pub kept_lesser : {r : ℕ} {P Q : Property} {a b : ℕ} → Kept r P a → Kept r Q b → Kept r (λ t. P t ⊎ Q t) (lesser b a)
unfolding lesser
kept_lesser {r} {P} {Q} {a} {b} k l = go (ltb b a) refl
  where
    go : (x : Bool) → ltb b a ≡ x → Kept r (λ t. P t ⊎ Q t) (pick x b a)
    go true e = record {
      under = λ t. ⊎_elim (λ p. let h = k.under t p in omega (arith, ltb-true b a e)) (l.under t);
      reached = ⊎_elim inl (λ z. inr (z.0, inr z.1, z.2)) l.reached;
    }
    go false e = record {
      under = λ t. ⊎_elim (k.under t) (λ q. let h = l.under t q in omega (arith, ltb-false b a e));
      reached = ⊎_elim inl (λ z. inr (z.0, inl z.1, z.2)) k.reached;
    }

pub kept_capped : {r : ℕ} {P : Property} {c : ℕ} → Kept r P c → Kept r P (lesser c no_number)
kept_capped {r} {P} k = kept_same (λ t. ⊎_elim (λ z. absurd z) (λ p. p)) (λ t p. inr p) (kept_lesser (kept_none (λ t z. z) (omega arith)) k)

pub kept_word : (r x : ℕ) → Kept (suc r) (λ t. t ≡ x ∷ []) (x * scale r)
unfolding placed
kept_word r x = record { under = λ t e. rw e (omega arith); reached = inr (x ∷ [], refl, omega arith) }

pub kept_sum : (r j : ℕ) → j ≤ r → {P Q : Property} {a b : ℕ} → ((t : List ℕ) → P t → length t ≡ j) → Kept r P a → Kept (r - j) Q b
    → Kept r (Joined P Q) (a + b)
kept_sum r j h {P} {Q} {a} {b} sized k l = record {
  under = λ t (us, vs, p, q, e). let m = k.under us p in let n = l.under vs q in rw (e, both us vs p) (omega arith);
  reached =
      ⊎_elim (λ z. inl (omega arith))
      (λ (us, p, x). ⊎_elim (λ z. inl (omega arith)) (λ (vs, q, y). inr (us ++ vs, (us, vs, p, q, refl), rw (both us vs p) (omega arith))) l.reached)
      k.reached;
}
  where
    both : (us vs : List ℕ) → P us → placed r (us ++ vs) ≡ placed r us + placed (r - j) vs
    both us vs p = let e = sized us p in rw (← e) (placed_join r us vs (omega arith))

-- what is kept of strings of n bytes is the least of them, or that there is none
module _ {P : Property} (n : ℕ) (h : n ≤ 6) (sized : (t : List ℕ) → P t → (length t ≡ n) × Bytes t) where
  pub kept_nothing : {c : ℕ} → Kept 6 P c → no_number ≤ c → LeastOrNone P none
  unfolding scale
  kept_nothing k l =
      nothing (λ t p. let (e, b) = sized t p in let m = k.under t p in let u = placed_under 6 t (omega arith) b in absurd (omega arith))

  pub kept_first : {c : ℕ} → Kept 6 P c → c < no_number → (s : List ℕ) × Least P s × (c ≡ placed 6 s)
  kept_first k l =
      ⊎_elim (λ z. absurd (omega arith))
      (λ (s, p, e). (
        s,
        (p, λ t q. let (a, b) = sized t q in let m = k.under t q in placed_least 6 s t ((sized s p).0 ∙ sym a) (omega arith) b (omega arith)),
        e,
      )) k.reached
