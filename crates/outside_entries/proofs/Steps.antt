-- The ways out of the functions without a loop: each test of the code is one of the model's.
use mathlib.Core.Path.{◌≡◌, sym, ◌∙◌}
use mathlib.Core.List.{List}
use Prim.Native.Nat.{ℕ, ◌+◌, ◌-◌, ◌/◌, ◌≤◌, ◌<◌}
use borrow.Author.Tests.{eq-eqb, ne_eqb, lt-ltb, le-ltb}
use Rattle.chart_keys.specs.Keys.{weight_unit}
use Rattle.chart_table.specs.declared.Layout.{Layout}
use Rattle.chart_table.specs.Table.{price_at}
use Rattle.outside_entries.specs.Entries.{lesser, inside_at, lower, push_split}

-- the lesser of two
module _ (a b : ℕ) where
  pub lesser_no_first : a ≡ 0 → b ≡ lesser a b
  unfolding lesser
  lesser_no_first p = rw (eq-eqb a 0 p)

  pub lesser_no_second : (a ≡ 0 → ⊥) → b ≡ 0 → a ≡ lesser a b
  unfolding lesser
  lesser_no_second n q = rw (ne_eqb a 0 n, eq-eqb b 0 q)

  pub lesser_second : (a ≡ 0 → ⊥) → (b ≡ 0 → ⊥) → b < a → b ≡ lesser a b
  unfolding lesser
  lesser_second n m h = rw (ne_eqb a 0 n, ne_eqb b 0 m, lt-ltb b a h)

  pub lesser_first : (a ≡ 0 → ⊥) → (b ≡ 0 → ⊥) → a ≤ b → a ≡ lesser a b
  unfolding lesser
  lesser_first n m h = rw (ne_eqb a 0 n, ne_eqb b 0 m, le-ltb b a h)

-- an inside weight
module _ (t : List ℕ) (d : Layout) (c : ℕ) {p : ℕ} (is : p ≡ price_at t d c 0) where
  pub inside_none : p ≡ 0 → 0 ≡ inside_at t d c
  unfolding inside_at
  inside_none z = rw (eq-eqb (price_at t d c 0) 0 (sym is ∙ z))

  pub inside_some : (p ≡ 0 → ⊥) → (p - 1) / weight_unit + 1 ≡ inside_at t d c
  unfolding inside_at
  inside_some n = rw (← is, ne_eqb p 0 n)

-- both parts of a node at a split
module _ (o t : List ℕ) (d : Layout) (l r a : ℕ) {x : ℕ} (ex : x ≡ inside_at t d l) where
  pub split_no_left : x ≡ 0 → o ≡ push_split o t d l r a
  unfolding push_split
  split_no_left z = rw (← ex, eq-eqb x 0 z)

  module _ (some : x ≡ 0 → ⊥) {y : ℕ} (ey : y ≡ inside_at t d r) where
    pub split_no_right : y ≡ 0 → o ≡ push_split o t d l r a
    unfolding push_split
    split_no_right z = rw (← ex, ← ey, ne_eqb x 0 some, eq-eqb y 0 z)

    pub split_both : (y ≡ 0 → ⊥) → {o₁ o₂ : List ℕ} → o₁ ≡ lower o l (a + (y - 1)) → o₂ ≡ lower o₁ r (a + (x - 1)) → o₂ ≡ push_split o t d l r a
    unfolding push_split
    split_both n e₁ e₂ = e₂ ∙ rw (e₁, ← ex, ← ey, ne_eqb x 0 some, ne_eqb y 0 n)
