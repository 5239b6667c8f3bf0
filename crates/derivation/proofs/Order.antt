-- The order of trees is a strict total order, and what comes before is no dearer: by recursion on the trees, each
-- comparison in turn.
use mathlib.Core.Path.{◌≡◌, refl, sym}
use mathlib.Core.List.{List}
use Prim.Native.Nat.{◌≤◌, compare, Ordering}
use Rattle.packing.specs.Meaning.{Grammar, Edge}
use Rattle.derivation.specs.Derivation.{Tree, leaf, node, weight}
use Rattle.derivation.specs.Order.{◌▸◌, cost_sum, order}
use Rattle.derivation.proofs.Comparison.{
  Lawful,
  turned,
  lt≢eq,
  lt≢gt,
  eq≢gt,
  compare_self,
  compare_same,
  compare_turn,
  compare_lawful,
  ▸-turn,
  ▸-eq,
  ▸-chain,
  number_turn,
  number_chain,
  weigh,
  ▸-rest,
}

module _ (g : Grammar) (es : List Edge) where
  order_self : (t : Tree) → order g es t t ≡ Ordering.eq
  unfolding order ◌▸◌
  order_self (leaf r e) = simp compare_self
  order_self (node r j a b) = simp (compare_self, order_self a, order_self b)

  order_turn : (s t : Tree) → order g es t s ≡ turned (order g es s t)
  unfolding order turned
  order_turn (leaf r e) (leaf s f) = number_turn _ _ _ (number_turn _ _ _ (number_turn r s _ (compare_turn e f)))
  order_turn (leaf r e) (node s k c d) = number_turn _ _ _ (number_turn _ _ _ (number_turn r s _ refl))
  order_turn (node r j a b) (leaf s f) = number_turn _ _ _ (number_turn _ _ _ (number_turn r s _ refl))
  order_turn (node r j a b) (node s k c d) =
      number_turn _ _ _ (number_turn _ _ _ (number_turn r s _ (number_turn j k _ (rw (order_turn a c, order_turn b d, ▸-turn)))))

  order_same : (s t : Tree) → order g es s t ≡ Ordering.eq → s ≡ t
  unfolding order
  order_same (leaf r e) (leaf s f) h =
      let h₂ = ▸-eq _ _ (▸-eq _ _ (▸-eq _ _ h).1).1 in
      rw (compare_same r s h₂.0, compare_same e f h₂.1)
  order_same (leaf r e) (node s k c d) h = absurd (lt≢eq (▸-eq _ _ (▸-eq _ _ (▸-eq _ _ h).1).1).1)
  order_same (node r j a b) (leaf s f) h = absurd (eq≢gt (sym (▸-eq _ _ (▸-eq _ _ (▸-eq _ _ h).1).1).1))
  order_same (node r j a b) (node s k c d) h =
      let h₂ = ▸-eq _ _ (▸-eq _ _ (▸-eq _ _ h).1).1 in
      let h₃ = ▸-eq _ _ h₂.1 in
      let h₄ = ▸-eq _ _ h₃.1 in
      rw (compare_same r s h₂.0, compare_same j k h₃.0, order_same a c h₄.0, order_same b d h₄.1)

  order_chain : (x y z : Tree) → order g es x y ≡ Ordering.lt → order g es y z ≡ Ordering.lt → order g es x z ≡ Ordering.lt
  unfolding order
  order_chain (leaf r e) (leaf s f) (leaf t h) = number_chain _ _ _ (number_chain _ _ _ (number_chain r s t (compare_lawful.chain e f h)))
  order_chain (leaf r e) (leaf s f) (node t l i j) = number_chain _ _ _ (number_chain _ _ _ (number_chain r s t (λ p q. refl)))
  order_chain (leaf r e) (node s k c d) (leaf t h) = number_chain _ _ _ (number_chain _ _ _ (number_chain r s t (λ p q. absurd (lt≢gt (sym q)))))
  order_chain (leaf r e) (node s k c d) (node t l i j) = number_chain _ _ _ (number_chain _ _ _ (number_chain r s t (λ p q. refl)))
  order_chain (node r m a b) (leaf s f) (leaf t h) = number_chain _ _ _ (number_chain _ _ _ (number_chain r s t (λ p q. absurd (lt≢gt (sym p)))))
  order_chain (node r m a b) (leaf s f) (node t l i j) =
      number_chain _ _ _ (number_chain _ _ _ (number_chain r s t (λ p q. absurd (lt≢gt (sym p)))))
  order_chain (node r m a b) (node s k c d) (leaf t h) =
      number_chain _ _ _ (number_chain _ _ _ (number_chain r s t (λ p q. absurd (lt≢gt (sym q)))))
  order_chain (node r m a b) (node s k c d) (node t l i j) =
      number_chain _ _ _ (number_chain _ _ _ (number_chain r s t (number_chain m k l
      (▸-chain (order g es) order_same a c i (order_chain a c i) (order_chain b d j)))))

  pub order_lawful : Lawful (order g es)
  order_lawful = record { self = order_self; same = order_same; turn = order_turn; chain = order_chain }

  -- what comes before weighs no more, and where it weighs the same, its words cost no more
  abbrev NoDearer : Tree → Tree → Type 0
  NoDearer s t = (weight g es s ≤ weight g es t) × (weight g es s ≡ weight g es t → cost_sum es s ≤ cost_sum es t)

  no_dearer : (s t : Tree) (o : Ordering)
      → compare (weight g es s) (weight g es t) ▸ compare (cost_sum es s) (cost_sum es t) ▸ o ≡ Ordering.lt → NoDearer s t
  no_dearer s t o h = (weigh _ _ _ h, λ e. weigh _ _ o (▸-rest _ _ _ e h))

  pub order_price : (s t : Tree) → order g es s t ≡ Ordering.lt → NoDearer s t
  unfolding order
  order_price (leaf r e) (leaf s f) h = no_dearer (leaf r e) (leaf s f) _ h
  order_price (leaf r e) (node s k c d) h = no_dearer (leaf r e) (node s k c d) _ h
  order_price (node r j a b) (leaf s f) h = no_dearer (node r j a b) (leaf s f) _ h
  order_price (node r j a b) (node s k c d) h = no_dearer (node r j a b) (node s k c d) _ h
