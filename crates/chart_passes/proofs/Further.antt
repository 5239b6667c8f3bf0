-- The further ranks of the root, from one to the next: where a rank is not found there is nothing more to do. Assumes nothing.
use mathlib.Core.Path.{◌≡◌}
use mathlib.Core.List.{List}
use Prim.Native.Nat.{ℕ, suc, ◌+◌, ◌-◌, ◌<◌, ◌≤◌}
use native.Mathlib.Omega.{arith}
use borrow.Author.Tests.{eq-eqb, ne_eqb}
use Rattle.chart_table.specs.declared.Layout.{Layout}
use Rattle.chart_table.specs.Table.{root, cell_number, price_at}
use Rattle.chart_search.specs.Search.{next_of_root, further_from}

module _ (rules edges index : List ℕ) (d : Layout) (m x : ℕ) (t : List ℕ) where
  pub further_end : m ≤ x → further_from rules edges index d (m - x) t x ≡ t
  unfolding further_from
  further_end h = let none : m - x ≡ 0 = omega arith in rw none

  module _ (l : x < m) where
    one_more : m - x ≡ suc (m - (x + 1))
    one_more = omega arith

    pub further_none : price_at t d (cell_number d (root d)) x ≡ 0 → further_from rules edges index d (m - x) t x ≡ t
    unfolding further_from
    further_none e = rw (one_more, eq-eqb (price_at t d (cell_number d (root d)) x) 0 e)

    pub further_next : (price_at t d (cell_number d (root d)) x ≡ 0 → ⊥)
        → further_from rules edges index d (m - x) t x ≡ further_from rules edges index d (m - (x + 1)) (next_of_root rules edges index d t x) (x + 1)
    unfolding further_from
    further_next e = rw (one_more, ne_eqb (price_at t d (cell_number d (root d)) x) 0 e)
