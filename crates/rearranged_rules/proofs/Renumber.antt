-- Renumbering is one to one from the trees of a grammar onto those of the rearranged one, and keeps weight and cost sum: node by node,
-- since each rule is there under its other number.
use mathlib.Core.Path.{◌≡◌, refl, sym, ap}
use mathlib.Core.Logic.{◌↔◌}
use mathlib.Core.List.{List}
use Prim.Native.Nat.{ℕ}
use native.Mathlib.Omega.{arith}
use lib.ListN.{length}
use Rattle.packing.specs.declared.Sym.{Sym}
use Rattle.packing.specs.declared.Rule as R
use Rattle.packing.specs.Meaning.{Grammar, Edge}
use Rattle.derivation.specs.Derivation.{At, Tree, leaf, node, Derives, by_word_rule, by_pair_rule, weight}
use Rattle.derivation.specs.Order.{cost_sum}
use Rattle.derivation.proofs.Lists.{at_length, length_at}
use Rattle.rearranged_rules.specs.Rearranged.{Rearranged, renumber, RulesBelow}

-- the rules of a derived tree are the grammar's
pub derives_below : {g : Grammar} {es : List Edge} {A : Sym} {i k : ℕ} {t : Tree} → Derives g es A i k t
    → RulesBelow (length g.rules) t
derives_below {g = g} (by_word_rule {r = r} p q) = at_length g.rules r p
derives_below {g = g} (by_pair_rule {r = r} p h₁ h₂ d₁ d₂) = (at_length g.rules r p, derives_below d₁, derives_below d₂)

module _ {f : ℕ → ℕ} {g g' : Grammar} (re : Rearranged f g g') where
  -- renumbering is one to one
  pub renumber_injective : (s t : Tree) → RulesBelow (length g.rules) s → RulesBelow (length g.rules) t
      → renumber f s ≡ renumber f t → s ≡ t
  unfolding renumber
  renumber_injective (leaf r e) (leaf r' e') a b h =
      let hr : f r ≡ f r' = cc in
      let he : e ≡ e' = cc in
      rw (re.one_to_one r r' a b hr, he)
  renumber_injective (leaf r e) (node r' j' s' t') a b h = let z : ◌≡◌ {A = ℕ} 0 1 = cc in absurd (omega arith)
  renumber_injective (node r j s t) (leaf r' e') a b h = let z : ◌≡◌ {A = ℕ} 0 1 = cc in absurd (omega arith)
  renumber_injective (node r j s t) (node r' j' s' t') a b h =
      let hr : f r ≡ f r' = cc in
      let hj : j ≡ j' = cc in
      let hs : renumber f s ≡ renumber f s' = cc in
      let ht : renumber f t ≡ renumber f t' = cc in
      rw (re.one_to_one r r' a.0 b.0 hr, hj, renumber_injective s s' a.1 b.1 hs, renumber_injective t t' a.2 b.2 ht)

  -- a rule of the other grammar is one of this
  origin : (r : ℕ) {rule : R.Rule} → At g'.rules r rule → (q : ℕ) × At g.rules q rule × (r ≡ f q)
  origin r {rule} e =
      let (q, b, h) = re.onto r (at_length g'.rules r e) in
      let (rule', a) = length_at g.rules q b in
      let m = re.moved q a in
      let same : rule' ≡ rule = cc in
      (q, rw same at a, sym h)

  module _ (es : List Edge) where
    pub renumber_derives : {A : Sym} {i k : ℕ} {t : Tree} → Derives g es A i k t → Derives g' es A i k (renumber f t)
    unfolding renumber
    renumber_derives (by_word_rule {r = r} p q) = by_word_rule (re.moved r p) q
    renumber_derives (by_pair_rule {r = r} p h₁ h₂ d₁ d₂) = by_pair_rule (re.moved r p) h₁ h₂ (renumber_derives d₁) (renumber_derives d₂)

    pub derives_renumbered : {A : Sym} {i k : ℕ} {t' : Tree} → Derives g' es A i k t'
        → (t : Tree) × Derives g es A i k t × (t' ≡ renumber f t)
    unfolding renumber
    derives_renumbered (by_word_rule {r = r} {e = e} p q) =
        let (o, a, h) = origin r p in (leaf o e, by_word_rule a q, ap (λ n. leaf n e) h)
    derives_renumbered (by_pair_rule {r = r} {j = j} p h₁ h₂ d₁ d₂) =
        let (o, a, h) = origin r p in
        let (s, c, hs) = derives_renumbered d₁ in
        let (t, d, ht) = derives_renumbered d₂ in
        (node o j s t, by_pair_rule a h₁ h₂ c d, λ x. node (h x) j (hs x) (ht x))

    -- both ways, for a tree with rules of the grammar
    pub derives_both : {A : Sym} {i k : ℕ} (t : Tree) → RulesBelow (length g.rules) t → Derives g es A i k t
        ↔ Derives g' es A i k (renumber f t)
    derives_both {A} {i} {k} t b = (
      renumber_derives,
      (λ d. let (s, c, p) = derives_renumbered d in rw (renumber_injective t s b (derives_below c) p) c),
    )

    -- the weight is kept, and so is the cost sum, which no rule has a part in
    pub renumber_weight : {A : Sym} {i k : ℕ} {t : Tree} → Derives g es A i k t → weight g es t ≡ weight g' es (renumber f t)
    unfolding renumber weight
    renumber_weight (by_word_rule {r = r} p q) = rw (p, re.moved r p)
    renumber_weight (by_pair_rule {r = r} p h₁ h₂ d₁ d₂) = rw (p, re.moved r p, renumber_weight d₁, renumber_weight d₂)

pub renumber_costs : (f : ℕ → ℕ) (es : List Edge) (t : Tree) → cost_sum es t ≡ cost_sum es (renumber f t)
unfolding renumber cost_sum
renumber_costs f es (leaf r e) = refl
renumber_costs f es (node r j s t) = rw (renumber_costs f es s, renumber_costs f es t)
