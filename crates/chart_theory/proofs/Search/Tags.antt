-- What is met with a rank can be given by a tag: its back pointer comes from the last found's in one of four ways, or it follows
-- none. For it follows the last found, or it follows what the last found followed, and then it is that one's sibling.
use mathlib.Core.Path.{◌≡◌, refl, sym, ap, ◌∙◌, subst}
use mathlib.Core.Logic.{◌⊎◌, inl, inr, ⊎_elim}
use mathlib.Core.Bool.{Bool, true, false, true≢false}
use mathlib.Core.List.{List}
use Prim.Native.Nat.{ℕ, zero, suc, ◌+◌, ◌-◌, ◌/◌, ◌≤◌, ◌<◌}
use native.Mathlib.Omega.{arith}
use lib.Dec.{eqb-suc-zero}
use Rattle.packing.specs.Meaning.{Grammar, Edge}
use Rattle.derivation.proofs.Rows.{Row, row, row_price_lem}
use Rattle.derivation.specs.Derivation.{Tree}
use Rattle.derivation.proofs.Frontier.{frontier_row}
use Rattle.chart_keys.specs.declared.BackPointer.{BackPointer}
use Rattle.chart_keys.specs.Keys.{back, back_number, back_pointer, no_key}
use Rattle.chart_table.specs.declared.Cell.{Cell}
use Rattle.chart_table.specs.declared.Layout.{Layout}
use Rattle.chart_table.specs.Table.{cell_number, back_at}
use Rattle.chart_tags.specs.Tags.{is_initial}
use Rattle.chart_theory.proofs.Table.Keys.{row_back, back_below, decoded, key_mod, key_back}
use Rattle.chart_theory.proofs.Table.Cells.{RowOfIn, RowAtIn, row_unique}
use Rattle.chart_theory.proofs.Queue.Numbers.{Shift, next_right, next_left, to_left, to_right}
use Rattle.chart_theory.proofs.Queue.Owners.{OwnerOf, tree_unique}
use Rattle.chart_theory.proofs.Queue.Pool.{Pool, Queued, fresh_initial}
use Rattle.chart_theory.proofs.Queue.ExtractMin.{back_in, FollowsNone, Reached}

module _ (g : Grammar) (es : List Edge) (c : Cell) where
  -- a row is one by its back pointer
  by_back : (v v' : Row) {z z' : Tree} → RowOfIn g es c v z → RowOfIn g es c v' z' → row_back v ≡ row_back v' → v ≡ v'
  by_back (row w r j p q) (row w' r' j' p' q') o o' e =
      let er : r' ≡ r = ap (λ b. b.rule) (sym e) in
      let ej : j' ≡ j = ap (λ b. b.split) (sym e) in
      let ep : p' ≡ p = ap (λ b. b.left) (sym e) in
      let eq : q' ≡ q = ap (λ b. b.right) (sym e) in
      let o'' = rw (er, ej, ep, eq) at o' in
      let same = tree_unique g es c o o'' in
      let price : w ≡ w' = row_price_lem g es o ∙ rw same (sym (row_price_lem g es o'')) in
      rw (er, ej, ep, eq, price)

  -- the successors of the last found, of rank x
  follower : (x : ℕ) (l v : Row) → RowAtIn g es c x l → OwnerOf g es c v (suc x) → Shift (back_number (row_back l)) (back_number (row_back v))
  follower x l (row w r zero p q) at owns = absurd (omega arith)
  follower x l (row w r (suc j) zero zero) at owns = absurd (omega arith)
  follower x l (row w r (suc j) (suc p) zero) at (y, w', e, at') =
      let same : y ≡ x = omega arith in
      let is : l ≡ row w' r (suc j) p 0 = row_unique g es c x at (rw same at at') in
      let sum : back_number (back r (suc j) p 0) + 256 ≡ back_number (back r (suc j) (suc p) 0) = omega arith in
      rw (is, ← sum) next_left
  follower x l (row w r (suc j) p (suc q)) at (y, w', e, at') =
      let same : y ≡ x = omega arith in
      let is : l ≡ row w' r (suc j) p q = row_unique g es c x at (rw same at at') in
      let sum : back_number (back r (suc j) p q) + 1 ≡ back_number (back r (suc j) p (suc q)) = omega arith in
      rw (is, ← sum) next_right

  -- its sibling, where both follow one and are not one
  sibling_of : (l v : Row) (o : ℕ) → OwnerOf g es c l o → OwnerOf g es c v o → is_initial (row_back v) ≡ false → (row_back v ≡ row_back l → ⊥)
      → Shift (back_number (row_back l)) (back_number (row_back v))
  sibling_of l (row w r zero p q) o own owns e other = absurd (true≢false e)
  sibling_of l (row w r (suc j) zero zero) o own owns e other = absurd (true≢false (rw (eqb-suc-zero j) at e))
  sibling_of (row w₁ r₁ zero p₁ q₁) (row w r (suc j) (suc p) zero) o own (y, w', e', at') e other = absurd (omega arith)
  sibling_of (row w₁ r₁ (suc j₁) zero zero) (row w r (suc j) (suc p) zero) o own (y, w', e', at') e other = absurd (omega arith)
  sibling_of (row w₁ r₁ (suc j₁) (suc p₁) zero) (row w r (suc j) (suc p) zero) o (y₁, w₁', e₁, at₁) (y, w', e', at') e other =
      let same : y₁ ≡ y = omega arith in
      let is = row_unique g es c y at' (rw same at at₁) in
      let er : r ≡ r₁ = cc in
      let ej : j ≡ j₁ = cc in
      let ep : p ≡ p₁ = cc in
      absurd (other (rw (er, ej, ep)))
  sibling_of (row w₁ r₁ (suc j₁) p₁ (suc q₁)) (row w r (suc j) (suc p) zero) o (y₁, w₁', e₁, at₁) (y, w', e', at') e other =
      let same : y₁ ≡ y = omega arith in
      let is = row_unique g es c y at' (rw same at at₁) in
      let er : r ≡ r₁ = cc in
      let ej : j ≡ j₁ = cc in
      let ep : p ≡ p₁ = cc in
      let eq : 0 ≡ q₁ = cc in
      let sum : back_number (back r₁ (suc j₁) p₁ (suc q₁)) + 255 ≡ back_number (back r (suc j) (suc p) 0) = rw (er, ej, ep, ← eq) (omega arith) in
      rw (← sum) to_left
  sibling_of (row w₁ r₁ zero p₁ q₁) (row w r (suc j) p (suc q)) o own (y, w', e', at') e other = absurd (omega arith)
  sibling_of (row w₁ r₁ (suc j₁) zero zero) (row w r (suc j) p (suc q)) o own (y, w', e', at') e other = absurd (omega arith)
  sibling_of (row w₁ r₁ (suc j₁) (suc p₁) zero) (row w r (suc j) p (suc q)) o (y₁, w₁', e₁, at₁) (y, w', e', at') e other =
      let same : y₁ ≡ y = omega arith in
      let is = row_unique g es c y at' (rw same at at₁) in
      let er : r ≡ r₁ = cc in
      let ej : j ≡ j₁ = cc in
      let ep : p ≡ p₁ = cc in
      let eq : q ≡ 0 = cc in
      to_right (back_number (back r (suc j) p (suc q))) (rw (er, ej, ep, eq) (omega arith))
  sibling_of (row w₁ r₁ (suc j₁) p₁ (suc q₁)) (row w r (suc j) p (suc q)) o (y₁, w₁', e₁, at₁) (y, w', e', at') e other =
      let same : y₁ ≡ y = omega arith in
      let is = row_unique g es c y at' (rw same at at₁) in
      let er : r ≡ r₁ = cc in
      let ej : j ≡ j₁ = cc in
      let ep : p ≡ p₁ = cc in
      let eq : q ≡ q₁ = cc in
      absurd (other (rw (er, ej, ep, eq)))

-- whether a key follows none is so or not
not_none : (k : ℕ) → (FollowsNone k true → ⊥) → FollowsNone k false
not_none k h = go (is_initial (back_pointer (back_in k))) refl
  where
    go : (b : Bool) → FollowsNone k b → FollowsNone k false
    go true e = absurd (h e)
    go false e = e

-- of a pool where the last found, of rank x, is l
module _ {g : Grammar} {es : List Edge} {N : ℕ} {c : Cell} {P : Row → Type 0} {x m lo hi : ℕ} {l : Row} {key tag : ℕ → ℕ}
    (pool : Pool g es N c P (suc x) l m lo hi key tag) (at : RowAtIn g es c x l) (t : List ℕ) (d : Layout)
    (points : back_at t d (cell_number d c) x ≡ back_number (row_back l)) where
  abbrev Reach : ℕ → Type 0
  Reach = Reached t d (cell_number d c) (suc x)

  reach : (k : ℕ) (v : Row) (o : ℕ) → Queued g es N c P (suc x) l (suc (suc x)) k v o → (o ≡ suc x) ⊎ (o ≡ pool.queue.last) → Reach k
  reach k v o q which = record {
    small = rw (q.keyed, key_mod v q.fits) (omega (arith, back_below (row_back v) q.fits.has_key));
    shift = λ none.
        let last_is : suc x - 1 ≡ x = omega arith in
        rw (last_is, points, back_is)
        (⊎_elim (λ e. follower g es c x l v at (rw e at q.owns))
        (λ e. sibling_of g es c l v pool.queue.last pool.queue.last_owned (rw e at q.owns) (not_first none) other)
        which);
  }
    where
      back_is : back_in k ≡ back_number (row_back v)
      back_is = rw q.keyed (key_back v q.fits)

      not_first : FollowsNone k false → is_initial (row_back v) ≡ false
      not_first none =
          let number : is_initial (back_pointer (back_number (row_back v))) ≡ false = rw back_is at none in
          subst (λ (b : BackPointer). is_initial b ≡ false) (decoded (row_back v) q.fits.has_key) number

      other : row_back v ≡ row_back l → ⊥
      other e =
          let (z, o') = frontier_row g es c.head c.from c.to N (suc x) q.on in
          let same : v ≡ l = by_back g es c v l o' at.2 e in
          omega (arith, rw same at q.above)

  owner_of_low : (pool.owner_lo ≡ suc x) ⊎ (pool.owner_lo ≡ pool.queue.last)
  owner_of_low = ⊎_elim (λ b. inl b.0) (λ b. inr b.0) pool.both

  owner_of_high : (pool.owner_hi ≡ suc x) ⊎ (pool.owner_hi ≡ pool.queue.last)
  owner_of_high = ⊎_elim (λ b. inr b.1) (λ b. inl b.1) pool.both

  pub reach_low : lo < no_key → Reach lo
  reach_low some = reach lo _ pool.owner_lo (pool.fresh_lo.some some) owner_of_low

  pub reach_high : hi < no_key → Reach hi
  reach_high some = reach hi _ pool.owner_hi (pool.fresh_hi.some some) owner_of_high

  -- of those that follow none at most one is in the pool
  pub alone : (y : ℕ) → y < m → N ≤ tag y / 4 + 1 → (lo < no_key → FollowsNone lo false) × (hi < no_key → FollowsNone hi false)
  alone y h i = (
    λ some. not_none lo (λ e. absurd_owner pool.owner_lo (fresh_initial pool lo _ pool.owner_lo (pool.fresh_lo.some some) e) owner_of_low),
    λ some. not_none hi (λ e. absurd_owner pool.owner_hi (fresh_initial pool hi _ pool.owner_hi (pool.fresh_hi.some some) e) owner_of_high),
  )
    where
      absurd_owner : (o : ℕ) → o ≡ 0 → (o ≡ suc x) ⊎ (o ≡ pool.queue.last) → ⊥
      absurd_owner o z = ⊎_elim (λ e. omega arith) (λ e. pool.queue.gone y h (pool.queue.tag_initial y h i ∙ sym z ∙ e))

  pub one : lo < no_key → hi < no_key → FollowsNone lo true → FollowsNone hi false
  one some some' e =
      let z = fresh_initial pool lo _ pool.owner_lo (pool.fresh_lo.some some) e in
      not_none hi (λ e'.
      let z' = fresh_initial pool hi _ pool.owner_hi (pool.fresh_hi.some some') e' in
      ⊎_elim (λ b. omega (arith, b.0)) (λ b. omega (arith, b.1)) pool.both)
