-- The search for a further rank of the root finds at most 2n − 1 ranks over n places, whatever the table held: of all entries only that of the rank
-- that is looked for can gain a tree.
use mathlib.Core.Path.{◌≡◌, refl}
use mathlib.Core.Bool.{Bool, true, false}
use mathlib.Core.List.{List}
use Prim.Native.Nat.{ℕ, zero, suc, ◌+◌, ◌-◌, ◌*◌, ◌≤◌, ◌<◌}
use native.Mathlib.Nat.{le_refl}
use native.Mathlib.Decide.{ℕ_discrete}
use native.Mathlib.Omega.{arith}
use lib.Dec.{ltb, eqb}
use borrow.Author.Tests.{ltb-true, ne_eqb}
use Rattle.bits.specs.Bits.{pick}
use Rattle.packing.specs.Loop.{iter}
use Rattle.packing.specs.Flat.{rule_at}
use Rattle.packing.specs.declared.Rule.{Rule}
use Rattle.packing.specs.declared.Rule.TheVariants.{Pair, Word}
use Rattle.chart_keys.specs.declared.BackPointer.{BackPointer}
use Rattle.chart_table.specs.declared.Cell.{Cell}
use Rattle.chart_table.specs.declared.Layout.{Layout}
use Rattle.chart_table.specs.Table.{price_in, left_part, right_part, root, cell_number, price_at}
use Rattle.chart_ranks.specs.Ranks.{next_rank}
use Rattle.chart_search.specs.Search.{Finder, extend, extend_parts, advance_pairing, back_before, next_of_span, next_of_root}
use Rattle.chart_steps.specs.Found.{found_among}
use Rattle.chart_steps.proofs.Bounds.{most, most_of_parts}
use Rattle.chart_steps.proofs.Trees.{SameBut, extract_but}

-- where one price differs at most, one rank more is found at most
pick_le : (b : Bool) (m n : ℕ) → m ≤ n → pick b m (m + 1) ≤ pick b n (n + 1)
pick_le true m n h = h
pick_le false m n h = omega arith

pick_most : (b : Bool) (m : ℕ) → pick b m (m + 1) ≤ m + 1
pick_most true m = omega arith
pick_most false m = le_refl (m + 1)

pick_least : (b : Bool) (m : ℕ) → m ≤ pick b m (m + 1)
pick_least true m = le_refl m
pick_least false m = omega arith

module _ (t u : List ℕ) (q : ℕ) (same : SameBut q t u) where
  among_below : (n : ℕ) → n ≤ q → found_among u n ≤ found_among t n
  unfolding found_among iter
  among_below zero h = le_refl 0
  among_below (suc n) h =
      rw (same.trees n (λ e. omega arith)).price (pick_le (eqb (price_in t (n * 4)) 0) _ _ (among_below n (omega arith)))

  one_more : (n : ℕ) → found_among u n ≤ found_among t n + 1
  unfolding found_among iter
  one_more zero = omega arith
  one_more (suc n) = go (ℕ_discrete n q) (one_more n)
    where
      go : Dec (n ≡ q) → found_among u n ≤ found_among t n + 1
          → pick (eqb (price_in u (n * 4)) 0) (found_among u n) (found_among u n + 1)
          ≤ pick (eqb (price_in t (n * 4)) 0) (found_among t n) (found_among t n + 1) + 1
      go (yes e) h =
          omega (
            arith,
            pick_most (eqb (price_in u (n * 4)) 0) (found_among u n),
            pick_least (eqb (price_in t (n * 4)) 0) (found_among t n),
            among_below n (omega arith),
          )
      go (no other) h = rw (same.trees n other).price (between (eqb (price_in t (n * 4)) 0) h)
        where
          between : (b : Bool) → found_among u n ≤ found_among t n + 1
              → pick b (found_among u n) (found_among u n + 1) ≤ pick b (found_among t n) (found_among t n + 1) + 1
          between true h = h
          between false h = omega arith

module _ (n : ℕ) where
  abbrev Adds : ℕ → (t u : List ℕ) → Type 0
  Adds m t u = found_among u n ≤ found_among t n + m

  abbrev FinderAdds : Finder → Type 0
  FinderAdds next = (t : List ℕ) (c : Cell) (rank : ℕ) → c.from < c.to → 0 < rank → Adds (most c) t (next t c rank)

  module _ (rules : List ℕ) (d : Layout) (next : Finder) (adds : FinderAdds next) where
    extend_adds : (t : List ℕ) (c : Cell) (rank : ℕ) → c.from < c.to → 0 < rank → Adds (most c) t (extend d next t c rank)
    unfolding extend
    extend_adds t c rank order positive = go (ltb rank d.ranks) (eqb (price_at t d (cell_number d c) rank) 0)
      where
        go : (a b : Bool) → Adds (most c) t (pick a (pick b (next t c rank) t) t)
        go true true = adds t c rank order positive
        go true false = omega arith
        go false b = omega arith

    parts_add : (t : List ℕ) (c : Cell) (b : BackPointer) (x : Rule) → c.from < b.split → b.split < c.to
        → Adds (most_of_parts c) t (extend_parts d next t c b x)
    unfolding extend_parts
    parts_add t c b (Word h x w) after before = omega arith
    parts_add t c b (Pair h x y w) after before = go (eqb b.right 0)
      where
        u : List ℕ
        u = extend d next t (right_part c y b.split) (b.right + 1)

        go : (z : Bool) → Adds (most_of_parts c) t (pick z (extend d next u (left_part c x b.split) (b.left + 1)) u)
        go true =
            omega (
              arith,
              extend_adds t (right_part c y b.split) (b.right + 1) before (omega arith),
              extend_adds u (left_part c x b.split) (b.left + 1) after (omega arith),
            )
        go false = omega (arith, extend_adds t (right_part c y b.split) (b.right + 1) before (omega arith))

    pairing_adds : (t : List ℕ) (c : Cell) (b : BackPointer) → Adds (most_of_parts c) t (advance_pairing rules d next t c b)
    unfolding advance_pairing
    pairing_adds t c b = outer (ltb c.from b.split) refl
      where
        x : Rule
        x = rule_at rules b.rule

        inner : (z : Bool) → c.from < b.split → ltb b.split c.to ≡ z → Adds (most_of_parts c) t (pick z (extend_parts d next t c b x) t)
        inner true after e = parts_add t c b x after (ltb-true b.split c.to e)
        inner false after e = omega arith

        outer : (z : Bool) → ltb c.from b.split ≡ z
            → Adds (most_of_parts c) t (pick z (pick (ltb b.split c.to) (extend_parts d next t c b x) t) t)
        outer true e = inner (ltb b.split c.to) (ltb-true c.from b.split e) refl
        outer false e = omega arith

  module _ (rules edges index : List ℕ) (d : Layout) where
    rank_adds : (t : List ℕ) (c : Cell) (rank : ℕ) → Adds 1 t (next_rank rules edges index d c rank t)
    unfolding next_rank
    rank_adds t c rank = one_more t _ _ (extract_but d (cell_number d c) t rank _ _) n

    span_adds : (fuel : ℕ) → FinderAdds (next_of_span rules edges index d fuel)
    unfolding next_of_span
    span_adds zero t c rank order positive = omega arith
    span_adds (suc fuel) t c rank order positive =
        let u = advance_pairing rules d (next_of_span rules edges index d fuel) t c (back_before t d c rank) in
        let parts = pairing_adds rules d _ (span_adds fuel) t c (back_before t d c rank) in
        rw (ne_eqb rank 0 (λ e. omega arith)) (omega (arith, parts, rank_adds u c rank))

    -- over all places, of the first n entries
    pub search_adds : (t : List ℕ) (x : ℕ) → 0 < d.last → Adds (2 * d.last - 1) t (next_of_root rules edges index d t x)
    unfolding next_of_root
    search_adds t x some = go (eqb (price_at t d (cell_number d (root d)) x) 0)
      where
        go : (b : Bool) → Adds (2 * d.last - 1) t (pick b t (extend d (next_of_span rules edges index d d.last) t (root d) (x + 1)))
        go true = omega arith
        go false = omega (arith, extend_adds rules d _ (span_adds d.last) t (root d) (x + 1) some (omega arith))
