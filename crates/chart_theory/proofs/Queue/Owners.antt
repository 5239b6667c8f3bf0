-- What a candidate of a cell follows: nothing, which is written 0, or rank x, which is written suc x.
-- No candidate follows two: its rule, split and ranks say which pairing it follows, and a pairing has one rank.
use mathlib.Core.Path.{◌≡◌, refl, sym, ◌∙◌}
use mathlib.Core.Bool.{true, false≢true}
use mathlib.Core.List.{List}
use Prim.Native.Nat.{ℕ, zero, suc, ◌≤◌, ◌<◌}
use native.Mathlib.Nat.{le_trans}
use native.Mathlib.Omega.{arith}
use lib.Dec.{eqb-suc-zero}
use Rattle.packing.specs.Meaning.{Grammar, Edge}
use Rattle.derivation.specs.Derivation.{Tree}
use Rattle.derivation.proofs.Comparison.{compare_same}
use Rattle.derivation.proofs.Order.{order_lawful}
use Rattle.derivation.proofs.Cell.{ranked_order}
use Rattle.derivation.proofs.Rows.{Price, Row, row, leaf_row, node_row}
use Rattle.derivation.proofs.Frontier.{a_leaf, a_seed, right_follower, left_follower}
use Rattle.chart_table.specs.declared.Cell.{Cell}
use Rattle.chart_tags.specs.Tags.{is_initial}
use Rattle.chart_theory.proofs.Table.Keys.{row_back}
use Rattle.chart_theory.proofs.Table.Cells.{RowOfIn, RowAtIn, FrontierIn}

module _ (g : Grammar) (es : List Edge) (c : Cell) where
  -- rule, split and ranks of the parts make the tree
  pub tree_unique : {w w' : Price} {r j p q : ℕ} {t t' : Tree} → RowOfIn g es c (row w r j p q) t → RowOfIn g es c (row w' r j p q) t'
      → t ≡ t'
  tree_unique (leaf_row p q) (leaf_row p' q') = refl
  tree_unique (leaf_row p q) (node_row p' h₁ h₂ l m) = absurd (omega arith)
  tree_unique (node_row p h₁ h₂ l m) (leaf_row p' q') = absurd (omega arith)
  tree_unique (node_row {B} {C} {s = s} {t = t} p h₁ h₂ l m) (node_row {B = B'} {C = C'} {s = s'} {t = t'} p' h₁' h₂' l' m') =
      let b : B' ≡ B = cc in
      let c' : C' ≡ C = cc in
      let l'' = rw b at l' in
      let m'' = rw c' at m' in
      let e : s ≡ s' = cc in
      let f : t ≡ t' = cc in
      cc

  rank_unique : {w w' : Price} {r j p q : ℕ} (x x' : ℕ) → RowAtIn g es c x (row w r j p q) → RowAtIn g es c x' (row w' r j p q)
      → x ≡ x'
  rank_unique x x' (t, f, o) (t', f', o') =
      let e : t' ≡ t = sym (tree_unique o o') in
      compare_same x x' (sym (ranked_order g es c.head c.from c.to x x' f (rw e at f')) ∙ (order_lawful g es).self t)

  -- what the candidate of rule r, split j and ranks p and q follows
  abbrev pub Owner : (r j q p o : ℕ) → Type 0
  Owner r zero q p o = o ≡ 0
  Owner r (suc j) zero zero o = o ≡ 0
  Owner r (suc j) zero (suc p) o = (x : ℕ) × (w : Price) × (o ≡ suc x) × RowAtIn g es c x (row w r (suc j) p 0)
  Owner r (suc j) (suc q) p o = (x : ℕ) × (w : Price) × (o ≡ suc x) × RowAtIn g es c x (row w r (suc j) p q)

  abbrev pub OwnerOf : Row → ℕ → Type 0
  OwnerOf (row w r j p q) o = Owner r j q p o

  owner_same : (r j q p : ℕ) {o o' : ℕ} → Owner r j q p o → Owner r j q p o' → o ≡ o'
  owner_same r zero q p e e' = e ∙ sym e'
  owner_same r (suc j) zero zero e e' = e ∙ sym e'
  owner_same r (suc j) zero (suc p) (x, w, e, at) (x', w', e', at') = rw (e, e', rank_unique x x' at at')
  owner_same r (suc j) (suc q) p (x, w, e, at) (x', w', e', at') = rw (e, e', rank_unique x x' at at')

  pub owner_unique : (v : Row) {o o' : ℕ} → OwnerOf v o → OwnerOf v o' → o ≡ o'
  owner_unique (row w r j p q) = owner_same r j q p

  -- a leaf and first with first follow none
  pub initial_owner : (v : Row) {o : ℕ} → is_initial (row_back v) ≡ true → OwnerOf v o → o ≡ 0
  initial_owner (row w r zero p q) e owns = owns
  initial_owner (row w r (suc j) zero zero) e owns = owns
  initial_owner (row w r (suc j) (suc p) zero) e owns = absurd (false≢true (rw (eqb-suc-zero j, eqb-suc-zero p) at e))
  initial_owner (row w r (suc j) zero (suc q)) e owns = absurd (false≢true (rw (eqb-suc-zero j, eqb-suc-zero q) at e))
  initial_owner (row w r (suc j) (suc p) (suc q)) e owns = absurd (false≢true (rw (eqb-suc-zero j, eqb-suc-zero p) at e))

  -- each candidate follows something
  pub seed_owner : (r j : ℕ) → 0 < j → Owner r j 0 0 0
  seed_owner r zero h = absurd (omega arith)
  seed_owner r (suc j) h = refl

  pub right_owner : (r j p q x : ℕ) (w : Price) → 0 < j → RowAtIn g es c x (row w r j p q) → Owner r j (suc q) p (suc x)
  right_owner r zero p q x w h at = absurd (omega arith)
  right_owner r (suc j) p q x w h at = (x, w, refl, at)

  pub left_owner : (r j p x : ℕ) (w : Price) → 0 < j → RowAtIn g es c x (row w r j p 0) → Owner r j 0 (suc p) (suc x)
  left_owner r zero p x w h at = absurd (omega arith)
  left_owner r (suc j) p x w h at = (x, w, refl, at)

  pub right_owned : (r j p q o : ℕ) → 0 < j → Owner r j (suc q) p o
      → (x : ℕ) × (w : Price) × (o ≡ suc x) × RowAtIn g es c x (row w r j p q)
  right_owned r zero p q o h owns = absurd (omega arith)
  right_owned r (suc j) p q o h owns = owns

  pub left_owned : (r j p o : ℕ) → 0 < j → Owner r j 0 (suc p) o
      → (x : ℕ) × (w : Price) × (o ≡ suc x) × RowAtIn g es c x (row w r j p 0)
  left_owned r zero p o h owns = absurd (omega arith)
  left_owned r (suc j) p o h owns = owns

  unfoldable pub owned : (N m : ℕ) {v : Row} → FrontierIn g es c N m v → (o : ℕ) × OwnerOf v o × (o ≤ m)
  owned N m (a_leaf p q) = (0, refl, omega arith)
  owned N m (a_seed {r = r} {j = j} rule h₁ h₂ l n) = (0, seed_owner r j (omega arith), omega arith)
  owned N m (right_follower {r = r} {j = j} {p = p} {q = q} {x = x} {w' = w} rule h₁ h₂ h at hp hq l n) =
      (suc x, right_owner r j p q x w (omega arith) at, h)
  owned N m (left_follower {r = r} {j = j} {p = p} {x = x} {w' = w} rule h₁ h₂ h at hp l n) =
      (suc x, left_owner r j p x w (omega arith) at, h)

  -- a candidate stays one as more is found
  pub frontier_more : (N m m' : ℕ) {v : Row} → m ≤ m' → FrontierIn g es c N m v → FrontierIn g es c N m' v
  frontier_more N m m' h (a_leaf p q) = a_leaf p q
  frontier_more N m m' h (a_seed rule h₁ h₂ l n) = a_seed rule h₁ h₂ l n
  frontier_more N m m' h (right_follower rule h₁ h₂ l at hp hq n n') = right_follower rule h₁ h₂ (le_trans l h) at hp hq n n'
  frontier_more N m m' h (left_follower rule h₁ h₂ l at hp n n') = left_follower rule h₁ h₂ (le_trans l h) at hp n n'

  -- and where what it follows was found before, it was one
  pub frontier_less : (N m m' : ℕ) {v : Row} {o : ℕ} → OwnerOf v o → o ≤ m' → FrontierIn g es c N m v → FrontierIn g es c N m' v
  frontier_less N m m' owns h (a_leaf p q) = a_leaf p q
  frontier_less N m m' owns h (a_seed rule h₁ h₂ l n) = a_seed rule h₁ h₂ l n
  frontier_less N m m' owns h (right_follower {r = r} {j = j} {p = p} {q = q} {x = x} {w' = w} rule h₁ h₂ l at hp hq n n') =
      let e = owner_same r j (suc q) p owns (right_owner r j p q x w (omega arith) at) in
      let less : x < m' = omega arith in
      right_follower rule h₁ h₂ less at hp hq n n'
  frontier_less N m m' owns h (left_follower {r = r} {j = j} {p = p} {x = x} {w' = w} rule h₁ h₂ l at hp n n') =
      let e = owner_same r j 0 (suc p) owns (left_owner r j p x w (omega arith) at) in
      let less : x < m' = omega arith in
      left_follower rule h₁ h₂ less at hp n n'
