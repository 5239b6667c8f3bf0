-- The outside weight of a cell that has a tree is the least weight of what can stand around it: where a part has a tree and its sibling has
-- one, so has their node, so no cell above is passed over.
use mathlib.Core.Path.{◌≡◌, refl, sym, ◌∙◌}
use mathlib.Core.Logic.{⊎_elim}
use mathlib.Core.Option.{Option, none, some}
use mathlib.Core.List.{List}
use Prim.Native.Nat.{ℕ, zero, suc, ◌+◌, ◌-◌, ◌*◌, ◌≤◌, ◌<◌}
use native.Mathlib.Nat.{le_refl}
use native.Mathlib.Omega.{arith}
use native.Mathlib.Decide.{ℕ_discrete}
use lib.ListN.{length, get_elem?}
use Rattle.packing.specs.declared.Sym.{Sym}
use Rattle.packing.specs.declared.Rule as R
use Rattle.packing.specs.declared.Rule.TheVariants.{Pair, Word}
use Rattle.packing.specs.Meaning.{Grammar, Edge}
use Rattle.derivation.specs.Derivation.{At, Tree, Derives, by_pair_rule}
use Rattle.derivation.proofs.Lists.{none≢some, at_length}
use Rattle.derivation.proofs.Ranges.{All, Light}
use Rattle.derivation.proofs.Slots.{Short, CheapEdges}
use Rattle.derivation.proofs.Trees.{same_sym}
use Rattle.cost_changes.specs.Outside.{
  Cells,
  lesser,
  least_upto,
  sum,
  if_there,
  inside,
  around,
  as_left,
  as_right,
  after_rules,
  outside_from,
  outside_within,
  outside,
}
use Rattle.cost_changes.proofs.Least.{
  IsLeast,
  least_unique,
  Under,
  lesser_found,
  lesser_left,
  lesser_right,
  upto_found,
  upto_finds,
  sum_found,
  sum_finds,
  same_found,
  same_is,
  there_found,
  there_finds,
}
use Rattle.cost_changes.proofs.Contexts.{
  Context,
  whole,
  on_left,
  on_right_lem,
  rim,
  rim_left,
  rim_right,
  Surrounds,
  nothing,
  by_right,
  by_left,
  surrounds_end,
  rim_bound,
}
use Rattle.cost_changes.proofs.Inside.{inside_least}

module _ (g : Grammar) (es : List Edge) (S : Sym) (n : ℕ) where
  abbrev inner : Cells
  inner = inside g es

  -- a context of that weight stands around the cell
  abbrev Stands : Sym → ℕ → ℕ → ℕ → Type 0
  Stands B i j v = (c : Context) × Surrounds g es S n B i j c × (rim g es c ≡ v)

  around_found : (B : Sym) (i j v : ℕ) → around S n B i j ≡ some v → Stands B i j v
  unfolding around rim
  around_found B i j v e =
      let (p, e₁) = same_found B.0 S.0 v _ e in
      let (q, e₂) = same_found i 0 v _ e₁ in
      let (r, e₃) = same_found j n v _ e₂ in
      let z : 0 ≡ v = cc in
      (whole, rw (same_sym B S p, q, r) nothing, z)

  -- what is found above holds of what is found here
  module _ (outer : Cells) (sound : (A : Sym) (i k v : ℕ) → i < k → outer A i k ≡ some v → Stands A i k v) where
    left_found : (B : Sym) (i j r : ℕ) (o : Option R.Rule) (v : ℕ) → i < j → get_elem? g.rules r ≡ o
        → as_left outer inner n B i j o ≡ some v → Stands B i j v
    unfolding as_left
    left_found B i j r none v b p e = absurd (none≢some e)
    left_found B i j r (some (Word H x w)) v b p e = absurd (none≢some e)
    left_found B i j r (some (Pair H L R w)) v b p e =
        let (q, e₁) = same_found L.0 B.0 v _ e in
        let (d, h, e₂) = upto_found _ (n - j) v e₁ in
        let (x, y, a₁, a₂, z) = sum_found w v (outer H i (suc (j + d))) (inner R j (suc (j + d))) e₂ in
        let (c, a, f₁) = sound H i (suc (j + d)) x (omega arith) a₁ in
        let (s, t, f₂) = (inside_least g es R j (suc (j + d))).found y a₂ in
        let l : j < suc (j + d) = omega arith in (
          on_left r j s c,
          by_right {c = c} (rw (same_sym L B q) at p) b l a t,
          rw (rim_left g es r j s c p, f₁, f₂) (sym z),
        )

    right_found : (B : Sym) (i j r : ℕ) (o : Option R.Rule) (v : ℕ) → i < j → get_elem? g.rules r ≡ o
        → as_right outer inner B i j o ≡ some v → Stands B i j v
    unfolding as_right
    right_found B i j r none v b p e = absurd (none≢some e)
    right_found B i j r (some (Word H x w)) v b p e = absurd (none≢some e)
    right_found B i j r (some (Pair H L R w)) v b p e =
        let (q, e₁) = same_found R.0 B.0 v _ e in
        let (h, l, e₂) = upto_found _ i v e₁ in
        let (x, y, a₁, a₂, z) = sum_found w v (outer H h j) (inner L h i) e₂ in
        let (c, a, f₁) = sound H h j x (omega arith) a₁ in
        let (s, t, f₂) = (inside_least g es L h i).found y a₂ in
        (on_right_lem r i s c, by_left {c = c} (rw (same_sym R B q) at p) l b a t, rw (rim_right g es r i s c p, f₁, f₂) (sym z))

    after_found : (B : Sym) (i j m v : ℕ) → i < j → after_rules outer inner g S n B i j m ≡ some v → Stands B i j v
    unfolding after_rules
    after_found B i j zero v b e = around_found B i j v e
    after_found B i j (suc m) v b e =
        ⊎_elim (λ p. ⊎_elim (after_found B i j m v b) (left_found B i j m (get_elem? g.rules m) v b refl)
        (lesser_found (after_rules outer inner g S n B i j m) (as_left outer inner n B i j (get_elem? g.rules m)) v p))
        (right_found B i j m (get_elem? g.rules m) v b refl)
        (lesser_found (lesser (after_rules outer inner g S n B i j m) (as_left outer inner n B i j (get_elem? g.rules m)))
        (as_right outer inner B i j (get_elem? g.rules m)) v e)

    from_found : (B : Sym) (i j v : ℕ) → i < j → outside_from outer inner g S n B i j ≡ some v → Stands B i j v
    unfolding outside_from
    from_found B i j v b e = after_found B i j (length g.rules) v b (there_found (inner B i j) _ v e)

  within_found : (m : ℕ) (B : Sym) (i j v : ℕ) → i < j → outside_within g es S n m B i j ≡ some v → Stands B i j v
  unfolding outside_within
  within_found zero B i j v b e = around_found B i j v (there_found (inner B i j) _ v e)
  within_found (suc m) B i j v b e = from_found (outside_within g es S n m) (within_found m) B i j v b e

  around_whole : Under (around S n S 0 n) 0
  unfolding around
  around_whole = (0, same_is S.0 _ ∙ same_is 0 _ ∙ same_is n _, le_refl 0)

  -- what stands above is found, and so is what stands here
  module _ (outer : Cells) where
    abbrev after : Sym → ℕ → ℕ → ℕ → Option ℕ
    after B i j m = after_rules outer inner g S n B i j m

    abbrev left : Sym → ℕ → ℕ → ℕ → Option ℕ
    left B i j r = as_left outer inner n B i j (get_elem? g.rules r)

    abbrev right : Sym → ℕ → ℕ → ℕ → Option ℕ
    right B i j r = as_right outer inner B i j (get_elem? g.rules r)

    left_finds : {A B C : Sym} {w i j k x y : ℕ} (r : ℕ) → At g.rules r (Pair A B C w) → j < k → k ≤ n → Under (outer A i k) x
        → Under (inner C j k) y → Under (left B i j r) (w + x + y)
    unfolding as_left
    left_finds {A} {B} {C} {w} {i} {j} {k} {x} {y} r p h l a b = go (k - suc j) (omega arith) (rw e a) (rw e b)
      where
        e : suc (j + (k - suc j)) ≡ k
        e = omega arith

        go : (d : ℕ) → d < n - j → Under (outer A i (suc (j + d))) x → Under (inner C j (suc (j + d))) y
            → Under (left B i j r) (w + x + y)
        go d b a₁ a₂ =
            rw (p, same_is B.0 (least_upto (λ d. sum w (outer A i (suc (j + d))) (inner C j (suc (j + d)))) (n - j)))
            (upto_finds (λ d. sum w (outer A i (suc (j + d))) (inner C j (suc (j + d)))) (n - j) d (w + x + y) b (sum_finds w x y _ _ a₁ a₂))

    right_finds : {A B C : Sym} {w i j k x y : ℕ} (r : ℕ) → At g.rules r (Pair A B C w) → i < j → Under (outer A i k) x
        → Under (inner B i j) y → Under (right C j k r) (w + x + y)
    unfolding as_right
    right_finds {A} {B} {C} {w} {i} {j} {k} {x} {y} r p h a b =
        rw (p, same_is C.0 (least_upto (λ h. sum w (outer A h k) (inner B h j)) j))
        (upto_finds (λ h. sum w (outer A h k) (inner B h j)) j i (w + x + y) h (sum_finds w x y _ _ a b))

    after_more : (B : Sym) (i j r m v : ℕ) → r ≤ m → Under (after B i j r) v
        → Under (after B i j m) v
    unfolding after_rules
    after_more B i j r zero v h u = let z : r ≡ 0 = omega arith in rw z at u
    after_more B i j r (suc m) v h u = go (λ l. after_more B i j r m v l u) (ℕ_discrete r (suc m))
      where
        go : (r ≤ m → Under (after B i j m) v) → Dec (r ≡ suc m)
            → Under (after B i j (suc m)) v
        go before (yes p) = rw p at u
        go before (no p) =
            lesser_left (lesser (after B i j m) (left B i j m))
            (right B i j m) v
            (lesser_left (after B i j m) (left B i j m) v (before (omega arith)))

    after_left : (B : Sym) (i j r v : ℕ) → Under (left B i j r) v
        → Under (after B i j (suc r)) v
    unfolding after_rules
    after_left B i j r v u = lesser_left (lesser (after B i j r) (left B i j r)) (right B i j r) v (lesser_right (after B i j r) (left B i j r) v u)

    after_right : (B : Sym) (i j r v : ℕ) → Under (right B i j r) v
        → Under (after B i j (suc r)) v
    unfolding after_rules
    after_right B i j r v u = lesser_right (lesser (after B i j r) (left B i j r)) (right B i j r) v u

    from_after : {B : Sym} {i j : ℕ} {t : Tree} → Derives g es B i j t → (r v : ℕ) → r ≤ length g.rules
        → Under (after B i j r) v → Under (outside_from outer inner g S n B i j) v
    unfolding outside_from
    from_after {B} {i} {j} {t} d r v h u =
        let (x, e, l) = (inside_least g es B i j).finds t d in
        there_finds (inner B i j) _ x v e (after_more B i j r (length g.rules) v h u)

    from_whole : {t : Tree} → Derives g es S 0 n t → Under (outside_from outer inner g S n S 0 n) 0
    unfolding after_rules
    from_whole d = from_after d 0 0 (omega arith) around_whole

    from_right : {A B C : Sym} {w i j k : ℕ} (r : ℕ) (s t : Tree) (c : Context) → At g.rules r (Pair A B C w) → j < k → k ≤ n
        → Derives g es C j k s → Derives g es B i j t → Under (outer A i k) (rim g es c)
        → Under (outside_from outer inner g S n B i j) (rim g es (on_left r j s c))
    from_right {A} {B} {C} {w} {i} {j} {k} r s t c p h l d d' u =
        let u' = left_finds r p h l u ((inside_least g es C j k).finds s d) in
        let (v, e, b) = from_after d' (suc r) _ (at_length g.rules r p) (after_left B i j r _ u') in
        (v, e, omega (arith, rim_left g es r j s c p))

    from_left : {A B C : Sym} {w i j k : ℕ} (r : ℕ) (s t : Tree) (c : Context) → At g.rules r (Pair A B C w) → i < j
        → Derives g es B i j s → Derives g es C j k t → Under (outer A i k) (rim g es c)
        → Under (outside_from outer inner g S n C j k) (rim g es (on_right_lem r j s c))
    from_left {A} {B} {C} {w} {i} {j} {k} r s t c p h d d' u =
        let u' = right_finds r p h u ((inside_least g es B i j).finds s d) in
        let (v, e, b) = from_after d' (suc r) _ (at_length g.rules r p) (after_right C j k r _ u') in
        (v, e, omega (arith, rim_right g es r j s c p))

  within_finds : {B : Sym} {i j : ℕ} {c : Context} {t : Tree} → Surrounds g es S n B i j c → Derives g es B i j t → (m : ℕ)
      → n - (j - i) ≤ m → Under (outside_within g es S n m B i j) (rim g es c)
  unfolding outside_within rim
  within_finds {t = t} nothing d m b = go m
    where
      go : (m : ℕ) → Under (outside_within g es S n m S 0 n) 0
      go zero = let (x, e, l) = (inside_least g es S 0 n).finds t d in there_finds (inner S 0 n) _ x 0 e around_whole
      go (suc m) = from_whole (outside_within g es S n m) d
  within_finds {t = t} (by_right {A} {B} {C} {r} {w} {i} {j} {k} {s} {c} p h₁ h₂ a d) d' m b =
      go m b (λ m b. within_finds a (by_pair_rule p h₁ h₂ d' d) m b)
    where
      go : (m : ℕ) → n - (j - i) ≤ m → ((m : ℕ) → n - (k - i) ≤ m → Under (outside_within g es S n m A i k) (rim g es c))
          → Under (outside_within g es S n m B i j) (rim g es (on_left r j s c))
      go zero b rec = absurd (omega (arith, surrounds_end g es S n a))
      go (suc m) b rec =
          let l = surrounds_end g es S n a in from_right (outside_within g es S n m) r s t c p h₂ l d d' (rec m (omega arith))
  within_finds {t = t} (by_left {A} {B} {C} {r} {w} {i} {j} {k} {s} {c} p h₁ h₂ a d) d' m b =
      go m b (λ m b. within_finds a (by_pair_rule p h₁ h₂ d d') m b)
    where
      go : (m : ℕ) → n - (k - j) ≤ m → ((m : ℕ) → n - (k - i) ≤ m → Under (outside_within g es S n m A i k) (rim g es c))
          → Under (outside_within g es S n m C j k) (rim g es (on_right_lem r j s c))
      go zero b rec = absurd (omega (arith, surrounds_end g es S n a))
      go (suc m) b rec =
          let l = surrounds_end g es S n a in from_left (outside_within g es S n m) r s t c p h₁ d d' (rec m (omega arith))

  pub outside_least : (B : Sym) (i j : ℕ) → i < j → {t : Tree} → Derives g es B i j t
      → IsLeast (Surrounds g es S n B i j) (rim g es) (outside g es S n B i j)
  unfolding outside
  outside_least B i j b d = record {
    found = λ v e. within_found (n - (j - i)) B i j v b e;
    finds = λ c a. within_finds a d (n - (j - i)) (le_refl _);
  }

  -- a weight stands around the cell, whether it has a tree or not
  pub outside_found : (B : Sym) (i j v : ℕ) → i < j → outside g es S n B i j ≡ some v → Stands B i j v
  unfolding outside
  outside_found B i j v b e = within_found (n - (j - i)) B i j v b e

  -- a cell without a tree is passed over
  within_none : (B : Sym) (i j m : ℕ) → inner B i j ≡ none → outside_within g es S n m B i j ≡ none
  unfolding outside_within outside_from if_there
  within_none B i j zero e = rw e
  within_none B i j (suc m) e = rw e

  from_none : (outer : Cells) (B : Sym) (i j : ℕ) → inner B i j ≡ none → outside_from outer inner g S n B i j ≡ none
  unfolding outside_from if_there
  from_none outer B i j e = rw e

  -- outside(B, i, j) is the least, over rules A → B C and ends k, of outside(A, i, k) + weight + inside(C, j, k), and over A → C B and
  -- starts: whatever the depth
  pub outside_is : (B : Sym) (i j : ℕ) → i < j → outside_from (outside g es S n) inner g S n B i j ≡ outside g es S n B i j
  unfolding outside rim
  outside_is B i j b = go (inner B i j) refl
    where
      step : {B : Sym} {i j : ℕ} {c : Context} {t : Tree} → Surrounds g es S n B i j c → Derives g es B i j t
          → Under (outside_from (outside g es S n) inner g S n B i j) (rim g es c)
      step nothing d = from_whole (outside g es S n) d
      step {t = t} (by_right {A} {r = r} {i = i} {k = k} {s = s} {c = c} p h₁ h₂ a d) d' =
          from_right (outside g es S n) r s t c p h₂ (surrounds_end g es S n a) d d'
          ((outside_least A i k (omega arith) (by_pair_rule p h₁ h₂ d' d)).finds c a)
      step {t = t} (by_left {A} {r = r} {i = i} {k = k} {s = s} {c = c} p h₁ h₂ a d) d' =
          from_left (outside g es S n) r s t c p h₁ d d' ((outside_least A i k (omega arith) (by_pair_rule p h₁ h₂ d d')).finds c a)

      go : (o : Option ℕ) → inner B i j ≡ o → outside_from (outside g es S n) inner g S n B i j ≡ outside g es S n B i j
      go none e = from_none (outside g es S n) B i j e ∙ sym (within_none B i j (n - (j - i)) e)
      go (some x) e =
          let (t, d, q) = (inside_least g es B i j).found x e in
          let again : IsLeast (Surrounds g es S n B i j) (rim g es) (outside_from (outside g es S n) inner g S n B i j) = record {
            found = λ v e. from_found (outside g es S n) outside_found B i j v b e;
            finds = λ c a. step a d;
          } in
          least_unique _ _ again (outside_least B i j b d)

  -- and it fits as a weight does, whatever number of rules was gone over
  module _ (short : Short es) (light : All Light g.rules) (cheap : CheapEdges es) where
    abbrev Fits : ℕ → ℕ → ℕ → Type 0
    Fits i j v = v + 196605 * (j - i) ≤ 196605 * n

    stands_bound : {B : Sym} {i j v : ℕ} → Stands B i j v → Fits i j v
    stands_bound (c, a, q) = omega (arith, rim_bound g es S n short light cheap a)

    pub outside_bound : (B : Sym) (i j v : ℕ) → i < j → outside g es S n B i j ≡ some v → Fits i j v
    outside_bound B i j v b e = stands_bound (outside_found B i j v b e)

    pub after_bound : (B : Sym) (i j m v : ℕ) → i < j → after_rules (outside g es S n) inner g S n B i j m ≡ some v → Fits i j v
    after_bound B i j m v b e = stands_bound (after_found (outside g es S n) outside_found B i j m v b e)

    pub left_bound : (B : Sym) (i j r v : ℕ) → i < j → as_left (outside g es S n) inner n B i j (get_elem? g.rules r) ≡ some v → Fits i j v
    left_bound B i j r v b e = stands_bound (left_found (outside g es S n) outside_found B i j r (get_elem? g.rules r) v b refl e)
