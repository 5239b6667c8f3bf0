-- The least string with a property, or that none has it. There is one: the order is total. An ascending list begins with it. That of two
-- properties is the lesser of both; and that of joined strings, whose left parts are of one length, joins the least of either part,
-- since the left parts decide first. Assumes nothing.
use mathlib.Core.Path.{◌≡◌, refl, sym, ap, ◌∙◌}
use mathlib.Core.Logic.{◌⊎◌, inl, inr, ⊎_elim}
use mathlib.Core.Option.{Option, none, some}
use mathlib.Core.List.Memᴰ
use mathlib.Core.List.{List, [], ◌∷◌, ◌++◌, head?}
use Prim.Native.Nat.{ℕ, Ordering}
use lib.ListN.{length}
use Rattle.bits.specs.Bits.{pick}
use Rattle.derivation.specs.Rank.{◌∈◌}
use Rattle.derivation.proofs.Comparison.{lt≢eq, turn_gt, ▸-first, ▸-second}
use Rattle.derivation.proofs.Sorted.{Ascending}
use Rattle.phrases.specs.Phrases.{word_order, Precedes, Least}
use Rattle.phrases.specs.Enumeration.{is_less}
use Rattle.phrases.specs.Recursion.{lesser_of, join_of}
use Rattle.phrases.proofs.Order.{order_lawful, order_join}

abbrev pub Property : Type 1
Property = List ℕ → Type 0

pub data LeastOrNone (P : Property) : Option (List ℕ) → Type 0 where
  nothing : ((s : List ℕ) → P s → ⊥) → LeastOrNone P none
  first : {s : List ℕ} → Least P s → LeastOrNone P (some s)

pub least_same : {P Q : Property} {o : Option (List ℕ)} → ((s : List ℕ) → P s → Q s) → ((s : List ℕ) → Q s → P s) → LeastOrNone P o → LeastOrNone Q o
least_same f g (nothing n) = nothing (λ s q. n s (g s q))
least_same f g (first {s} (p, l)) = first (f s p, λ t q. l t (g t q))

never_both : (s t : List ℕ) → Precedes s t → Precedes t s → ⊥
never_both s t p q = lt≢eq (sym (order_lawful.chain s t s p q) ∙ order_lawful.self s)

pub least_unique : {P : Property} {a b : Option (List ℕ)} → LeastOrNone P a → LeastOrNone P b → a ≡ b
least_unique (nothing n) (nothing m) = refl
least_unique (nothing n) (first (p, l)) = absurd (n _ p)
least_unique (first (p, l)) (nothing m) = absurd (m _ p)
least_unique (first {s} (p, l)) (first {s = t} (q, m)) =
    ⊎_elim (λ e. ap some (sym e)) (λ h. ⊎_elim (ap some) (λ k. absurd (never_both s t h k)) (m s p)) (l t q)

pub least_first : (l : List (List ℕ)) → Ascending word_order l → LeastOrNone (λ s. s ∈ l) (head? l)
least_first [] a = nothing (λ s m. Memᴰ.not-nil m)
least_first (x ∷ l) (a, b) = first (Memᴰ.head refl, λ t m. ⊎_elim inl (λ k. inr (a t k)) (Memᴰ.cases_cons m))

-- what comes at or after t comes at or after s, if s does not come after t
at_or_after : (s t u : List ℕ) → (t ≡ s) ⊎ Precedes s t → (u ≡ t) ⊎ Precedes t u → (u ≡ s) ⊎ Precedes s u
at_or_after s t u p q = ⊎_elim (λ e. ⊎_elim (λ f. inl (f ∙ e)) (λ h. inr (rw e at h)) q)
    (λ h. ⊎_elim (λ f. inr (rw f h)) (λ k. inr (order_lawful.chain s t u h k)) q) p

-- the lesser of two
pub lesser_least : {P Q : Property} {a b : Option (List ℕ)} → LeastOrNone P a → LeastOrNone Q b → LeastOrNone (λ s. P s ⊎ Q s) (lesser_of a b)
unfolding lesser_of
lesser_least (nothing x) (nothing y) = nothing (λ t. ⊎_elim (x t) (y t))
lesser_least (nothing x) (first (q, l)) = first (inr q, λ t. ⊎_elim (λ p. absurd (x t p)) (l t))
lesser_least (first (p, l)) (nothing y) = first (inl p, λ t. ⊎_elim (l t) (λ q. absurd (y t q)))
lesser_least {P} {Q} (first {s} (p, l)) (first {s = t} (q, m)) = go (word_order t s) refl
  where
    other : (t ≡ s) ⊎ Precedes s t → LeastOrNone (λ s. P s ⊎ Q s) (some s)
    other h = first (inl p, λ u. ⊎_elim (l u) (λ z. at_or_after s t u h (m u z)))

    go : (o : Ordering) → word_order t s ≡ o → LeastOrNone (λ s. P s ⊎ Q s) (pick (is_less o) (some t) (some s))
    go Ordering.lt e = first (inr q, λ u. ⊎_elim (λ z. at_or_after t s u (inr e) (l u z)) (m u))
    go Ordering.eq e = other (inl (order_lawful.same t s e))
    go Ordering.gt e = other (inr (turn_gt order_lawful t s e))

-- t is joined of a string with the property P and one with the property Q
abbrev pub Joined : Property → Property → Property
Joined P Q t = (us : List ℕ) × (vs : List ℕ) × P us × Q vs × (t ≡ us ++ vs)

pub join_least : {P Q : Property} {a b : Option (List ℕ)} (n : ℕ) → ((s : List ℕ) → P s → length s ≡ n) → LeastOrNone P a → LeastOrNone Q b
    → LeastOrNone (Joined P Q) (join_of a b)
join_least n len (nothing x) b = nothing (λ t j. x j.0 j.2)
join_least n len (first p) (nothing y) = nothing (λ t j. y j.1 j.3)
join_least {P} {Q} n len (first {s = us} (p, l)) (first {s = vs} (q, m)) =
    first ((us, vs, p, q, refl), λ t (us', vs', p', q', e). after us' vs' (len us p ∙ sym (len us' p')) e (l us' p') (m vs' q'))
  where
    after : {t : List ℕ} (us' vs' : List ℕ) → length us ≡ length us' → t ≡ us' ++ vs' → (us' ≡ us) ⊎ Precedes us us' → (vs' ≡ vs) ⊎ Precedes vs vs'
        → (t ≡ us ++ vs) ⊎ Precedes (us ++ vs) t
    after us' vs' k e (inl f) (inl h) = inl (rw (e, f, h))
    after us' vs' k e (inl f) (inr h) = inr (rw (e, order_join us us' vs vs' k) (▸-second _ _ (rw f (order_lawful.self us)) h))
    after us' vs' k e (inr h) _ = inr (rw (e, order_join us us' vs vs' k) (▸-first _ _ h))
