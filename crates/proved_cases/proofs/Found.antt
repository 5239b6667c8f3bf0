-- The found ranks of a table, counted in one pass over its entries of four numbers.
use mathlib.Core.Path.{◌≡◌, refl, ap, ◌∙◌}
use mathlib.Core.Bool.{Bool, true, false}
use mathlib.Core.List.{List}
use Prim.Native.Nat.{ℕ, zero, suc, ◌+◌, ◌*◌, ◌/◌}
use native.Mathlib.Omega.{arith}
use lib.Dec.{eqb}
use lib.ListN.{drop}
use lib.Seq.{get_or-drop}
use Rattle.bits.specs.Bits.{pick}
use Rattle.packing.specs.Loop.{iter}
use Rattle.packing.specs.Meaning.{Grammar, Heard, last_place}
use Rattle.chart_table.specs.Table.{price_in}
use Rattle.chart.specs.Chart.{lay_out}
use Rattle.chart_steps.specs.Found.{found_among}
use Rattle.open_listing.specs.Stands.{found_ranks}
use Rattle.open_listing.proofs.Sums.{ranks_are}

-- how many of the first n entries hold a tree
unfoldable pub in_turn : ℕ → List ℕ → ℕ
in_turn zero t = 0
in_turn (suc n) t = in_turn n (drop 4 t) + pick (eqb (price_in t 0) 0) 0 1

-- the entry behind one is the same entry of what is left without the first
behind_first : (t : List ℕ) (e : ℕ) → price_in t (suc e * 4) ≡ price_in (drop 4 t) (e * 4)
behind_first t e =
    let at : suc e * 4 ≡ 4 + e * 4 = omega arith in
    let next : suc e * 4 + 1 ≡ 4 + (e * 4 + 1) = omega arith in
    rw (get_or-drop 4 t (e * 4) 0, get_or-drop 4 t (e * 4 + 1) 0, next, at)

first_apart : (t : List ℕ) (n : ℕ) → found_among t (suc n) ≡ found_among (drop 4 t) n + pick (eqb (price_in t 0) 0) 0 1
unfolding found_among iter
first_apart t zero = go (eqb (price_in t 0) 0)
  where
    go : (b : Bool) → pick b 0 (0 + 1) ≡ 0 + pick b 0 1
    go true = refl
    go false = refl
first_apart t (suc n) =
    rw (behind_first t n, first_apart t n)
    (go (eqb (price_in (drop 4 t) (n * 4)) 0) (found_among (drop 4 t) n) (pick (eqb (price_in t 0) 0) 0 1))
  where
    go : (b : Bool) (m x : ℕ) → pick b (m + x) (m + x + 1) ≡ pick b m (m + 1) + x
    go true m x = refl
    go false m x = omega arith

among_in_turn : (n : ℕ) (t : List ℕ) → found_among t n ≡ in_turn n t
unfolding in_turn found_among iter
among_in_turn zero t = refl
among_in_turn (suc n) t = first_apart t n ∙ ap (λ (m : ℕ). m + pick (eqb (price_in t 0) 0) 0 1) (among_in_turn n (drop 4 t))

pub found_in_turn : (g : Grammar) (h : Heard) (t : List ℕ) → found_ranks g h t ≡ in_turn (g.symbols * (last_place h * (last_place h + 1) / 2) * 256) t
unfolding lay_out
found_in_turn g h t = ranks_are g h t ∙ among_in_turn _ t
