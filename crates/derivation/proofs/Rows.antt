-- Trees of a cell compare by six numbers: weight, sum of costs, rule, split, and the places, from 0, of the two parts in their own
-- cells' lists.
-- For where rules and splits agree, the parts are trees of the same two cells, and these compare as their places do.
use mathlib.Core.Path.{◌≡◌, sym, ◌∙◌}
use mathlib.Core.List.{List}
use Prim.Native.Nat.{ℕ, ◌+◌, ◌<◌, compare, Ordering}
use native.Mathlib.Omega.{arith}
use lib.ListN.{length}
use Rattle.packing.specs.declared.Sym.{Sym}
use Rattle.packing.specs.declared.Word as W
use Rattle.packing.specs.declared.Rule.TheVariants.{Pair, Word}
use Rattle.packing.specs.Meaning.{Grammar, Edge, edge}
use Rattle.derivation.specs.Derivation.{At, Offered, Tree, leaf, node, Derives, by_word_rule, by_pair_rule, rule_weight, edge_cost, weight}
use Rattle.derivation.specs.Order.{◌▸◌, cost_sum, order}
use Rattle.derivation.specs.List.{ranked}
use Rattle.derivation.proofs.Comparison.{compare_same, compare_lt, compare_gt, ▸-eq, ▸-cong, ▸-first, ▸-gt, ▸-between}
use Rattle.derivation.proofs.Order.{order_lawful}
use Rattle.derivation.proofs.Lists.{at_length}
use Rattle.derivation.proofs.Cell.{ranked_order, place_derives, derives_place}

-- what a tree costs: its weight, and the sum of its words' costs
pub data Price : Type 0 where
  price : (weight costs : ℕ) → Price

abbrev pub weight_in : Price → ℕ
weight_in (price w s) = w

abbrev pub costs_in : Price → ℕ
costs_in (price w s) = s

-- that of a rule of weight w with two parts
abbrev pub joined : ℕ → Price → Price → Price
joined w a b = price (w + weight_in a + weight_in b) (costs_in a + costs_in b)

-- a leaf's split is 0, its left number is the edge's, its right number 0
pub data Row : Type 0 where
  row : (price : Price) (rule split left right : ℕ) → Row

abbrev pub row_price : Row → Price
row_price (row v r j p q) = v

unfoldable pub row_order : Row → Row → Ordering
row_order (row (price w s) r j p q) (row (price w' s') r' j' p' q') =
    compare w w' ▸ compare s s' ▸ compare r r' ▸ compare j j' ▸ compare p p' ▸ compare q q'

pub row_same : (x y : Row) → row_order x y ≡ Ordering.eq → x ≡ y
unfolding row_order
row_same (row (price w s) r j p q) (row (price w' s') r' j' p' q') h =
    let h₀ = ▸-eq _ _ h in
    let h₁ = ▸-eq _ _ h₀.1 in
    let h₂ = ▸-eq _ _ h₁.1 in
    let h₃ = ▸-eq _ _ h₂.1 in
    let h₄ = ▸-eq _ _ h₃.1 in
    rw (
      compare_same w w' h₀.0,
      compare_same s s' h₁.0,
      compare_same r r' h₂.0,
      compare_same j j' h₃.0,
      compare_same p p' h₄.0,
      compare_same q q' h₄.1,
    )

module _ (g : Grammar) (es : List Edge) where
  pub leaf_weight : {A : Sym} {x : W.Word} {i k w c : ℕ} (r e : ℕ) → At g.rules r (Word A x w) → Offered es e (edge i k x c)
      → weight g es (leaf r e) ≡ w + c
  unfolding weight rule_weight edge_cost
  leaf_weight r e p q = rw (p, q.0)

  pub node_weight_lem : {A B C : Sym} {w : ℕ} (r j : ℕ) (s t : Tree) → At g.rules r (Pair A B C w)
      → weight g es (node r j s t) ≡ w + weight g es s + weight g es t
  unfolding weight rule_weight
  node_weight_lem r j s t e = rw e

  leaf_costs : {A : Sym} {x : W.Word} {i k w c : ℕ} (r e : ℕ) → At g.rules r (Word A x w) → Offered es e (edge i k x c)
      → cost_sum es (leaf r e) ≡ c
  unfolding cost_sum edge_cost
  leaf_costs r e p q = rw q.0

  abbrev pub price_of : Tree → Price
  price_of t = price (weight g es t) (cost_sum es t)

  -- RowOf A i k v t: v is the row of the tree t in the cell
  pub data RowOf (A : Sym) (i k : ℕ) : Row → Tree → Type 0 where
    leaf_row : {x : W.Word} {r e w c : ℕ} → At g.rules r (Word A x w) → Offered es e (edge i k x c)
        → RowOf A i k (row (price (w + c) c) r 0 e 0) (leaf r e)
    node_row : {B C : Sym} {r w j p q : ℕ} {s t : Tree} → At g.rules r (Pair A B C w) → i < j → j < k
        → At (ranked g es B i j) p s → At (ranked g es C j k) q t
        → RowOf A i k (row (joined w (price_of s) (price_of t)) r j p q) (node r j s t)

  pub row_price_lem : {A : Sym} {i k : ℕ} {v : Row} {t : Tree} → RowOf A i k v t → row_price v ≡ price_of t
  unfolding cost_sum
  row_price_lem (leaf_row {r = r} {e = e} p q) = rw (leaf_weight r e p q, leaf_costs r e p q)
  row_price_lem (node_row {r = r} {j = j} {s = s} {t = t} p h₁ h₂ l m) = rw (node_weight_lem r j s t p)

  pub row_derives : {A : Sym} {i k : ℕ} {v : Row} {t : Tree} → RowOf A i k v t → Derives g es A i k t
  row_derives (leaf_row p q) = by_word_rule p q
  row_derives {i = i} {k = k} (node_row {B} {C} {j = j} {p = a} {q = b} p h₁ h₂ l m) =
      by_pair_rule p h₁ h₂ (place_derives g es B i j a l) (place_derives g es C j k b m)

  pub derives_row : {A : Sym} {i k : ℕ} {t : Tree} → Derives g es A i k t → (v : Row) × RowOf A i k v t
  derives_row (by_word_rule {r = r} {e = e} {w = w} {c = c} p q) = (row (price (w + c) c) r 0 e 0, leaf_row p q)
  derives_row (by_pair_rule {A} {B} {C} {r} {w} {i} {j} {k} {s} {t} p h₁ h₂ d₁ d₂) =
      let (a, l) = derives_place g es B i j d₁ in
      let (b, m) = derives_place g es C j k d₂ in
      (row (joined w (price_of s) (price_of t)) r j a b, node_row p h₁ h₂ l m)

  parts_order : (i k p p' q q' : ℕ) {A B B' C C' : Sym} {r r' w w' j j' : ℕ} {s s' t t' : Tree}
      → At g.rules r (Pair A B C w) → At g.rules r' (Pair A B' C' w') → r' ≡ r → j' ≡ j
      → At (ranked g es B i j) p s → At (ranked g es C j k) q t → At (ranked g es B' i j') p' s'
      → At (ranked g es C' j' k) q' t'
      → order g es s s' ▸ order g es t t' ≡ compare p p' ▸ compare q q'
  parts_order i k p p' q q' {A} {B} {B'} {C} {C'} {r} {r'} {w} {w'} {j} {j'} e e' er ej l m l' m' =
      let e_b : B' ≡ B = cc in
      let e_c : C' ≡ C = cc in
      rw (ranked_order g es B i j p p' l (rw (e_b, ej) at l'), ranked_order g es C j k q q' m (rw (e_c, ej) at m'))

  -- the central lemma
  pub row_order_lem : {A : Sym} {i k : ℕ} {v v' : Row} {t t' : Tree} → RowOf A i k v t → RowOf A i k v' t'
      → order g es t t' ≡ row_order v v'
  unfolding order cost_sum row_order
  row_order_lem (leaf_row {r = r} {e = e} p q) (leaf_row {r = r'} {e = e'} p' q') =
      rw (leaf_weight r e p q, leaf_weight r' e' p' q', leaf_costs r e p q, leaf_costs r' e' p' q')
      (▸-cong _ (λ _. ▸-cong _ (λ _. ▸-cong _ (λ _. ▸-between (compare e e')))))
  row_order_lem (leaf_row {r = r} {e = e} p q) (node_row {r = r'} {j = j} {s = s} {t = t} p' h₁ h₂ l m) =
      rw (leaf_weight r e p q, leaf_costs r e p q, node_weight_lem r' j s t p')
      (▸-cong _ (λ _. ▸-cong _ (λ _. ▸-cong _ (λ _. sym (▸-first (compare 0 j) _ (compare_lt 0 j (omega arith)))))))
  row_order_lem (node_row {r = r} {j = j} {s = s} {t = t} p h₁ h₂ l m) (leaf_row {r = r'} {e = e} p' q') =
      rw (leaf_weight r' e p' q', leaf_costs r' e p' q', node_weight_lem r j s t p)
      (▸-cong _ (λ _. ▸-cong _ (λ _. ▸-cong _ (λ _. sym (▸-gt (compare j 0) _ (compare_gt j 0 (omega arith)))))))
  row_order_lem {i = i} {k = k} (node_row {r = r} {j = j} {p = p} {q = q} {s} {t} e h₁ h₂ l m)
      (node_row {r = r'} {j = j'} {p = p'} {q = q'} {s = s'} {t = t'} e' h₁' h₂' l' m') =
      rw (node_weight_lem r j s t e, node_weight_lem r' j' s' t' e')
      (▸-cong _ (λ _. ▸-cong _ (λ _. ▸-cong _ (λ er. ▸-cong _ (λ ej.
      parts_order i k p p' q q' e e' (sym (compare_same r r' er)) (sym (compare_same j j' ej)) l m l' m')))))

  -- place x of the cell's list has the row v
  abbrev pub RowAt : Sym → ℕ → ℕ → ℕ → Row → Type 0
  RowAt A i k x v = (t : Tree) × At (ranked g es A i k) x t × RowOf A i k v t

  module _ (A : Sym) (i k x : ℕ) where
    pub place_row : {t : Tree} → At (ranked g es A i k) x t → (v : Row) × RowOf A i k v t
    place_row h = derives_row (place_derives g es A i k x h)

    pub row_below : {v : Row} → RowAt A i k x v → x < length (ranked g es A i k)
    row_below r = at_length (ranked g es A i k) x r.1

    pub row_one : {v v' : Row} → RowAt A i k x v → RowAt A i k x v' → v ≡ v'
    row_one {v} {v'} (t, f, o) (t', f', o') =
        let p : t' ≡ t = cc in
        row_same v v' (sym (row_order_lem o (rw p at o')) ∙ (order_lawful g es).self t)
