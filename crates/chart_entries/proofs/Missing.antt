-- The first rank that is not found, from one rank to the next: it is the one looked at, or one behind it. Assumes nothing.
use mathlib.Core.Path.{◌≡◌}
use mathlib.Core.List.{List}
use Prim.Native.Nat.{ℕ, suc, ◌+◌, ◌-◌, ◌<◌, ◌≤◌}
use native.Mathlib.Omega.{arith}
use borrow.Author.Tests.{eq-eqb, ne_eqb}
use Rattle.chart_table.specs.declared.Layout.{Layout}
use Rattle.chart_table.specs.Table.{price_at, missing_from}

pub missing_end : (t : List ℕ) (d : Layout) (c n x : ℕ) → x ≤ n → n ≤ x → missing_from t d c (n - x) x ≡ n
unfolding missing_from
missing_end t d c n x low high = let none : n - x ≡ 0 = omega arith in rw none (omega arith)

module _ (t : List ℕ) (d : Layout) (c n x : ℕ) (l : x < n) where
  one_more : n - x ≡ suc (n - (x + 1))
  one_more = omega arith

  pub missing_here : price_at t d c x ≡ 0 → missing_from t d c (n - x) x ≡ x
  unfolding missing_from
  missing_here e = rw (one_more, eq-eqb (price_at t d c x) 0 e)

  pub missing_behind : (price_at t d c x ≡ 0 → ⊥) → missing_from t d c (n - x) x ≡ missing_from t d c (n - (x + 1)) (x + 1)
  unfolding missing_from
  missing_behind e = rw (one_more, ne_eqb (price_at t d c x) 0 e)
