-- Strings compared word by word are in a strict total order: the first place where two differ decides. Where the left parts are of one
-- length, they decide, and if they are equal the right parts do. Assumes nothing.
use mathlib.Core.Path.{◌≡◌, refl, sym}
use mathlib.Core.List.{List, [], ◌∷◌, ◌++◌}
use Prim.Native.Nat.{ℕ, compare, Ordering}
use native.Mathlib.Omega.{arith}
use lib.ListN.{length}
use Rattle.derivation.specs.Order.{◌▸◌}
use Rattle.derivation.proofs.Comparison.{Lawful, turned, lt≢eq, lt≢gt, eq≢gt, compare_self, compare_same, ▸-eq, number_turn, number_chain}
use Rattle.phrases.specs.Phrases.{word_order, Precedes}

order_self : (s : List ℕ) → word_order s s ≡ Ordering.eq
unfolding word_order
order_self [] = refl
order_self (x ∷ s) = rw (compare_self x) (order_self s)

order_same : (s t : List ℕ) → word_order s t ≡ Ordering.eq → s ≡ t
unfolding word_order
order_same [] [] e = refl
order_same [] (y ∷ t) e = absurd (lt≢eq e)
order_same (x ∷ s) [] e = absurd (eq≢gt (sym e))
order_same (x ∷ s) (y ∷ t) e = let (p, q) = ▸-eq _ _ e in rw (compare_same x y p, order_same s t q)

order_turn : (s t : List ℕ) → word_order t s ≡ turned (word_order s t)
unfolding word_order turned
order_turn [] [] = refl
order_turn [] (y ∷ t) = refl
order_turn (x ∷ s) [] = refl
order_turn (x ∷ s) (y ∷ t) = number_turn x y _ (order_turn s t)

order_trans : (s t u : List ℕ) → Precedes s t → Precedes t u → Precedes s u
unfolding word_order
order_trans [] [] u p q = absurd (lt≢eq (sym p))
order_trans [] (y ∷ t) [] p q = absurd (lt≢gt (sym q))
order_trans [] (y ∷ t) (z ∷ u) p q = refl
order_trans (x ∷ s) [] u p q = absurd (lt≢gt (sym p))
order_trans (x ∷ s) (y ∷ t) [] p q = absurd (lt≢gt (sym q))
order_trans (x ∷ s) (y ∷ t) (z ∷ u) p q = number_chain x y z (order_trans s t u) p q

pub order_lawful : Lawful word_order
order_lawful = record { self = order_self; same = order_same; turn = order_turn; chain = order_trans }

-- the left parts decide, and where they are equal the right parts
▸-assoc : (a b c : Ordering) → a ▸ (b ▸ c) ≡ (a ▸ b) ▸ c
unfolding ◌▸◌
▸-assoc Ordering.lt b c = refl
▸-assoc Ordering.eq b c = refl
▸-assoc Ordering.gt b c = refl

pub ▸-last : (o : Ordering) → o ▸ Ordering.eq ≡ o
unfolding ◌▸◌
▸-last Ordering.lt = refl
▸-last Ordering.eq = refl
▸-last Ordering.gt = refl

pub order_join : (us us' vs vs' : List ℕ) → length us ≡ length us' → word_order (us ++ vs) (us' ++ vs') ≡ word_order us us' ▸ word_order vs vs'
unfolding word_order ◌▸◌
order_join [] [] vs vs' e = refl
order_join [] (y ∷ us') vs vs' e = absurd (omega arith)
order_join (x ∷ us) [] vs vs' e = absurd (omega arith)
order_join (x ∷ us) (y ∷ us') vs vs' e = rw (order_join us us' vs vs' (omega arith)) (▸-assoc (compare x y) (word_order us us') (word_order vs vs'))
