-- The frontier theorem, document 001, equations (6) to (9): place m of a cell's list holds a leaf, a pairing of two first
-- places, or a follower of one of the m rows before it.
-- For the same pairing with one part a place earlier comes earlier, so it is among those m; and no part's place is above m.
use mathlib.Core.Path.{◌≡◌, refl, sym, ◌∙◌}
use mathlib.Core.Logic.{by_cases}
use mathlib.Core.List.{List}
use Prim.Native.Nat.{Ordering}
use Prim.Native.Nat.{ℕ, zero, suc, ◌+◌, ◌≤◌, ◌<◌, zero-le}
use native.Mathlib.Decide.{dec_lt}
use native.Mathlib.Omega.{arith}
use lib.ListN.{length}
use Rattle.packing.specs.declared.Sym.{Sym}
use Rattle.packing.specs.declared.Word as W
use Rattle.packing.specs.declared.Rule.TheVariants.{Pair, Word}
use Rattle.packing.specs.Meaning.{Grammar, Edge, edge}
use Rattle.derivation.specs.Derivation.{At, Offered, Tree, leaf, node, Derives, weight}
use Rattle.derivation.specs.Order.{cost_sum, order, Before}
use Rattle.derivation.specs.List.{ranked}
use Rattle.derivation.proofs.Comparison.{compare_self, compare_lt, compare_below, ▸-le, ▸-first, ▸-second}
use Rattle.derivation.proofs.Order.{order_lawful, order_price}
use Rattle.derivation.proofs.Lists.{at_length, length_at}
use Rattle.derivation.proofs.Cell.{ranked_order, derives_place}
use Rattle.derivation.proofs.Rows.{
  Price,
  price,
  joined,
  Row,
  row,
  row_price,
  row_order,
  RowOf,
  leaf_row,
  node_row,
  row_price_lem,
  row_derives,
  row_order_lem,
  RowAt,
  place_row,
}

at_pred : {A : Type 0} {x : A} (l : List A) (n : ℕ) → At l (suc n) x → (y : A) × At l n y
at_pred l n e = length_at l n (omega (arith, at_length l (suc n) e))

module _ (g : Grammar) (es : List Edge) where
  -- a node whose part comes earlier comes earlier
  node_left : (r j : ℕ) (s s' t : Tree) → Before g es s s' → Before g es (node r j s t) (node r j s' t)
  unfolding order weight cost_sum
  node_left r j s s' t h =
      let (lighter, cheaper) = order_price g es s s' h in
      ▸-le _ _ _ (omega arith) (λ e.
      let c = cheaper (omega arith) in
      ▸-le _ _ _ (omega arith) (λ _. ▸-second _ _ (compare_self r) (▸-second _ _ (compare_self j) (▸-first _ _ h))))

  node_right : (r j : ℕ) (s t t' : Tree) → Before g es t t' → Before g es (node r j s t) (node r j s t')
  unfolding order weight cost_sum
  node_right r j s t t' h =
      let (lighter, cheaper) = order_price g es t t' h in
      ▸-le _ _ _ (omega arith) (λ e.
      let c = cheaper (omega arith) in
      ▸-le _ _ _ (omega arith) (λ _.
      ▸-second _ _ (compare_self r) (▸-second _ _ (compare_self j) (▸-second _ _ ((order_lawful g es).self s) h))))

  module _ (A : Sym) (i k : ℕ) where
    -- an earlier tree has an earlier place
    earlier : (m : ℕ) {s t : Tree} → At (ranked g es A i k) m t → Derives g es A i k s → Before g es s t
        → (x : ℕ) × (x < m) × At (ranked g es A i k) x s
    earlier m {s} e d h =
        let (x, f) = derives_place g es A i k d in (x, compare_below x m (sym (ranked_order g es A i k x m f e) ∙ h), f)

    -- the node with the tree just before as its right part, or as its left part, has an earlier place
    module _ {B C : Sym} {r w j : ℕ} (rule : At g.rules r (Pair A B C w)) (h₁ : i < j) (h₂ : j < k) where
      right_before : (m p q : ℕ) {s t : Tree} → At (ranked g es B i j) p s → At (ranked g es C j k) (suc q) t
          → At (ranked g es A i k) m (node r j s t)
          → (x : ℕ) × (t' : Tree) × (x < m) × At (ranked g es A i k) x (node r j s t') × At (ranked g es C j k) q t'
      right_before m p q {s} {t} l n e =
          let (t', n') = at_pred (ranked g es C j k) q n in
          let (x, b, f) = earlier m e (row_derives g es (node_row rule h₁ h₂ l n'))
          (node_right r j s t' t (ranked_order g es C j k q (suc q) n' n ∙ compare_lt q (suc q) (omega arith))) in
          (x, t', b, f, n')

      left_before : (m p q : ℕ) {s t : Tree} → At (ranked g es B i j) (suc p) s → At (ranked g es C j k) q t
          → At (ranked g es A i k) m (node r j s t)
          → (x : ℕ) × (s' : Tree) × (x < m) × At (ranked g es A i k) x (node r j s' t) × At (ranked g es B i j) p s'
      left_before m p q {s} {t} l n e =
          let (s', l') = at_pred (ranked g es B i j) p l in
          let (x, b, f) = earlier m e (row_derives g es (node_row rule h₁ h₂ l' n))
          (node_left r j s' s t (ranked_order g es B i j p (suc p) l' l ∙ compare_lt p (suc p) (omega arith))) in
          (x, s', b, f, l')

      -- so no part's place is above the node's
      left_bound : (p m q : ℕ) {s t : Tree} → At (ranked g es B i j) p s → At (ranked g es C j k) q t
          → At (ranked g es A i k) m (node r j s t) → p ≤ m
      left_bound zero m q l n e = zero-le
      left_bound (suc p) m q l n e = let (x, s', b, f, l') = left_before m p q l n e in omega (arith, left_bound p x q l' n f)

      right_bound : (q m p : ℕ) {s t : Tree} → At (ranked g es B i j) p s → At (ranked g es C j k) q t
          → At (ranked g es A i k) m (node r j s t) → q ≤ m
      right_bound zero m p l n e = zero-le
      right_bound (suc q) m p l n e =
          let (x, t', b, f, n') = right_before m p q l n e in omega (arith, right_bound q x p l n' f)

    -- the frontier at place m, of N places: leaves, first with first, and both followers of each row before place m
    pub data Frontier (N m : ℕ) : Row → Type 0 where
      a_leaf : {x : W.Word} {r e w c : ℕ} → At g.rules r (Word A x w) → Offered es e (edge i k x c)
          → Frontier N m (row (price (w + c) c) r 0 e 0)
      a_seed : {B C : Sym} {r w j : ℕ} {vl vr : Row} → At g.rules r (Pair A B C w) → i < j → j < k → RowAt g es B i j 0 vl
          → RowAt g es C j k 0 vr → Frontier N m (row (joined w (row_price vl) (row_price vr)) r j 0 0)
      right_follower : {B C : Sym} {r w j p q x : ℕ} {w' : Price} {vl vr : Row} → At g.rules r (Pair A B C w) → i < j → j < k → x < m
          → RowAt g es A i k x (row w' r j p q)
          → p < N → suc q < N → RowAt g es B i j p vl → RowAt g es C j k (suc q) vr
          → Frontier N m (row (joined w (row_price vl) (row_price vr)) r j p (suc q))
      left_follower : {B C : Sym} {r w j p x : ℕ} {w' : Price} {vl vr : Row} → At g.rules r (Pair A B C w) → i < j → j < k → x < m
          → RowAt g es A i k x (row w' r j p 0)
          → suc p < N → RowAt g es B i j (suc p) vl → RowAt g es C j k 0 vr
          → Frontier N m (row (joined w (row_price vl) (row_price vr)) r j (suc p) 0)

    -- a row whose parts are rows of their cells is a tree's
    paired : {B C : Sym} {r w j p q : ℕ} {vl vr : Row} → At g.rules r (Pair A B C w) → i < j → j < k
        → RowAt g es B i j p vl → RowAt g es C j k q vr
        → (t : Tree) × RowOf g es A i k (row (joined w (row_price vl) (row_price vr)) r j p q) t
    paired {r = r} {j = j} e h₁ h₂ (s, l, o) (t, n, o') =
        (node r j s t, rw (row_price_lem g es o, row_price_lem g es o') (node_row e h₁ h₂ l n))

    pub frontier_row : (N m : ℕ) {v : Row} → Frontier N m v → (t : Tree) × RowOf g es A i k v t
    frontier_row N m (a_leaf {r = r} {e = e} p q) = (leaf r e, leaf_row p q)
    frontier_row N m (a_seed p h₁ h₂ l n) = paired p h₁ h₂ l n
    frontier_row N m (right_follower p h₁ h₂ x f a b l n) = paired p h₁ h₂ l n
    frontier_row N m (left_follower p h₁ h₂ x f a l n) = paired p h₁ h₂ l n

    with_prices : (w : ℕ) {N m r j p q : ℕ} {a a' b b' : Price} → a ≡ a' → b ≡ b' → Frontier N m (row (joined w a b) r j p q)
        → Frontier N m (row (joined w a' b') r j p q)
    with_prices w e f on = rw (← e, ← f) on

    frontier : (N m : ℕ) {v : Row} {t : Tree} → m < N → At (ranked g es A i k) m t → RowOf g es A i k v t → Frontier N m v
    frontier N m h f (leaf_row p q) = a_leaf p q
    frontier N m h f (node_row {B} {C} {w = w} {j = j} {p = zero} {q = zero} rule h₁ h₂ l n) =
        let (vl, a) = place_row g es B i j 0 l in
        let (vr, b) = place_row g es C j k 0 n in
        with_prices w (row_price_lem g es a) (row_price_lem g es b) (a_seed rule h₁ h₂ (_, l, a) (_, n, b))
    frontier N m h f (node_row {B} {C} {w = w} {j = j} {p = suc p} {q = zero} rule h₁ h₂ l n) =
        let (vl, a) = place_row g es B i j (suc p) l in
        let (vr, b) = place_row g es C j k 0 n in
        let (x, s', y, f', l') = left_before rule h₁ h₂ m p zero l n f in
        let low = left_bound rule h₁ h₂ (suc p) m zero l n f in
        with_prices w (row_price_lem g es a) (row_price_lem g es b)
        (left_follower rule h₁ h₂ y (_, f', node_row rule h₁ h₂ l' n) (omega arith) (_, l, a) (_, n, b))
    frontier N m h f (node_row {B} {C} {w = w} {j = j} {p = p} {q = suc q} rule h₁ h₂ l n) =
        let (vl, a) = place_row g es B i j p l in
        let (vr, b) = place_row g es C j k (suc q) n in
        let (x, t', y, f', n') = right_before rule h₁ h₂ m p q l n f in
        let low = left_bound rule h₁ h₂ p m (suc q) l n f in
        let low' = right_bound rule h₁ h₂ (suc q) m p l n f in
        with_prices w (row_price_lem g es a) (row_price_lem g es b)
        (right_follower {p = p} rule h₁ h₂ y (_, f', node_row rule h₁ h₂ l n') (omega arith) (omega arith) (_, l, a) (_, n, b))

    -- above the row just before place m
    abbrev pub Beyond : ℕ → Row → Type 0
    Beyond m v = (x : ℕ) (l : Row) → suc x ≡ m → RowAt g es A i k x l → row_order l v ≡ Ordering.lt

    nth_beyond : (m : ℕ) {v : Row} → RowAt g es A i k m v → Beyond m v
    nth_beyond m (t, f, o) x l h (s, e, o') =
        sym (row_order_lem g es o' o) ∙ ranked_order g es A i k x m e f ∙ compare_lt x m (omega arith)

    not_known : (y m : ℕ) {v : Row} → m ≤ length (ranked g es A i k) → RowAt g es A i k y v → Beyond m v → y < m → ⊥
    not_known y zero b r above c = omega arith
    not_known y (suc x) b (t, f, o) above c =
        let (s, e) = length_at (ranked g es A i k) x b in
        let (l, o') = place_row g es A i k x e in
        let order : order g es s t ≡ Ordering.lt = row_order_lem g es o' o ∙ above x l refl (s, e, o') in
        omega (arith, compare_below x y (sym (ranked_order g es A i k x y e f) ∙ order))

    -- what is on the frontier and beyond, and above nothing else that is, is the next row
    pub step_row : (N m : ℕ) {v : Row} → m < N → m ≤ length (ranked g es A i k) → Frontier N m v → Beyond m v
        → ((v' : Row) → Frontier N m v' → Beyond m v' → row_order v' v ≡ Ordering.lt → ⊥) → RowAt g es A i k m v
    step_row N m {v} h b on above least =
        let (t, o) = frontier_row N m on in
        let (y, f) = derives_place g es A i k (row_derives g es o) in
        let low : m ≤ y = by_cases (dec_lt y m) (λ c. absurd (not_known y m b (t, f, o) above c)) (λ c. omega arith) in
        let (t', f') = length_at (ranked g es A i k) m (omega (arith, at_length (ranked g es A i k) y f)) in
        let (v', o') = place_row g es A i k m f' in
        let only : m < y → ⊥ = λ c. least v' (frontier N m h f' o') (nth_beyond m (t', f', o'))
        (sym (row_order_lem g es o' o) ∙ ranked_order g es A i k m y f' f ∙ compare_lt m y c) in
        let high : y ≤ m = by_cases (dec_lt m y) (λ c. absurd (only c)) (λ c. omega arith) in
        let same : y ≡ m = omega arith in
        (t, rw same at f, o)

    -- where nothing is, the list ends
    pub stop_row : (N m : ℕ) → m < N → m ≤ length (ranked g es A i k) → ((v : Row) → Frontier N m v → Beyond m v → ⊥)
        → length (ranked g es A i k) ≡ m
    stop_row N m h b empty =
        let over : m < length (ranked g es A i k) → ⊥ = λ c.
        let (t, f) = length_at (ranked g es A i k) m c in
        let (v, o) = place_row g es A i k m f in
        empty v (frontier N m h f o) (nth_beyond m (t, f, o)) in
        let high : length (ranked g es A i k) ≤ m = by_cases (dec_lt m (length (ranked g es A i k))) (λ c. absurd (over c)) (λ c. omega arith) in
        omega arith
