-- The search for a further rank of the root keeps every tree that is found, whatever the table held: a rank is looked for only where none is found, and
-- what is looked for on the way there keeps what was found before.
use mathlib.Core.Path.{◌≡◌, refl}
use mathlib.Core.Bool.{Bool, true, false}
use mathlib.Core.List.{List}
use Prim.Native.Nat.{ℕ, zero, suc, ◌+◌, ◌*◌, ◌<◌}
use native.Mathlib.Omega.{arith}
use lib.Dec.{ltb, eqb}
use lib.ListN.{get_or}
use borrow.Author.Tests.{ltb-true, lt-ltb, eqb-true, ne_eqb}
use Rattle.bits.specs.Bits.{pick}
use Rattle.packing.specs.Flat.{rule_at}
use Rattle.packing.specs.declared.Rule.{Rule}
use Rattle.packing.specs.declared.Rule.TheVariants.{Pair, Word}
use Rattle.chart_keys.specs.declared.BackPointer.{BackPointer}
use Rattle.chart_table.specs.declared.Cell.{Cell}
use Rattle.chart_table.specs.declared.Layout.{Layout}
use Rattle.chart_table.specs.Table.{price_in, left_part, right_part, root, cell_number, entry_of, price_at, back_at}
use Rattle.chart_ranks.specs.Ranks.{next_rank}
use Rattle.chart_search.specs.Search.{Finder, extend, extend_parts, advance_pairing, back_before, next_of_span, next_of_root}
use Rattle.chart_steps.proofs.Trees.{SameTree, SameBut, fourth, tree_trans, extract_but}

-- every tree of t is in u
record Keeps (t u : List ℕ) : Type 0 where
  trees : (e : ℕ) → 0 < price_in t (e * 4) → SameTree t u e

keeps_refl : (t : List ℕ) → Keeps t t
keeps_refl t = record { trees = λ e found. record { price = refl; back = refl } }

keeps_trans : {t u v : List ℕ} → Keeps t u → Keeps u v → Keeps t v
keeps_trans p q = record { trees = λ e found. let same = p.trees e found in tree_trans same (q.trees e (rw same.price found)) }

-- what differs in one entry, where t has no tree
keeps_but : {q : ℕ} {t u v : List ℕ} → price_in t (q * 4) ≡ 0 → Keeps t u → SameBut q u v → Keeps t v
keeps_but {q} {t} none p same = record {
  trees = λ e found. tree_trans (p.trees e found) (same.trees e (λ is. omega (arith, none, rw is at found)));
}

module _ (d : Layout) where
  -- where no rank is found
  none_there : (t : List ℕ) (c rank : ℕ) → rank < d.ranks → price_at t d c rank ≡ 0 → price_in t ((fourth d c rank).quarter * 4) ≡ 0
  unfolding price_at
  none_there t c rank kept none = let f = fourth d c rank in rw (lt-ltb rank d.ranks kept, f.is) at none

  abbrev FinderKeeps : Finder → Type 0
  FinderKeeps next =
      (t : List ℕ) (c : Cell) (rank : ℕ) → 0 < rank → rank < d.ranks → price_at t d (cell_number d c) rank ≡ 0 → Keeps t (next t c rank)

  module _ (rules : List ℕ) (next : Finder) (keeps : FinderKeeps next) where
    extend_keeps : (t : List ℕ) (c : Cell) (rank : ℕ) → 0 < rank → Keeps t (extend d next t c rank)
    unfolding extend
    extend_keeps t c rank positive = go (ltb rank d.ranks) (eqb (price_at t d (cell_number d c) rank) 0) refl refl
      where
        go : (a b : Bool) → ltb rank d.ranks ≡ a → eqb (price_at t d (cell_number d c) rank) 0 ≡ b → Keeps t (pick a (pick b (next t c rank) t) t)
        go true true p q = keeps t c rank positive (ltb-true rank d.ranks p) (eqb-true (price_at t d (cell_number d c) rank) 0 q)
        go true false p q = keeps_refl t
        go false b p q = keeps_refl t

    parts_keep : (t : List ℕ) (c : Cell) (b : BackPointer) (x : Rule) → Keeps t (extend_parts d next t c b x)
    unfolding extend_parts
    parts_keep t c b (Word h x w) = keeps_refl t
    parts_keep t c b (Pair h x y w) = go (eqb b.right 0)
      where
        u : List ℕ
        u = extend d next t (right_part c y b.split) (b.right + 1)

        on_right_lem : Keeps t u
        on_right_lem = extend_keeps t (right_part c y b.split) (b.right + 1) (omega arith)

        go : (z : Bool) → Keeps t (pick z (extend d next u (left_part c x b.split) (b.left + 1)) u)
        go true = keeps_trans on_right_lem (extend_keeps u (left_part c x b.split) (b.left + 1) (omega arith))
        go false = on_right_lem

    pairing_keeps : (t : List ℕ) (c : Cell) (b : BackPointer) → Keeps t (advance_pairing rules d next t c b)
    unfolding advance_pairing
    pairing_keeps t c b = go (ltb c.from b.split) (ltb b.split c.to)
      where
        go : (y z : Bool) → Keeps t (pick y (pick z (extend_parts d next t c b (rule_at rules b.rule)) t) t)
        go true true = parts_keep t c b (rule_at rules b.rule)
        go true false = keeps_refl t
        go false z = keeps_refl t

module _ (rules edges index : List ℕ) (d : Layout) where
  rank_but : (t : List ℕ) (c : Cell) (rank : ℕ) → SameBut (fourth d (cell_number d c) rank).quarter t (next_rank rules edges index d c rank t)
  unfolding next_rank
  rank_but t c rank = extract_but d (cell_number d c) t rank _ _

  span_keeps : (fuel : ℕ) → FinderKeeps d (next_of_span rules edges index d fuel)
  unfolding next_of_span
  span_keeps zero t c rank positive kept none = keeps_refl t
  span_keeps (suc fuel) t c rank positive kept none =
      let parts = pairing_keeps d rules _ (span_keeps fuel) t c (back_before t d c rank) in
      rw (ne_eqb rank 0 (λ e. omega arith)) (keeps_but (none_there d t (cell_number d c) rank kept none) parts (rank_but _ c rank))

  root_keeps : (t : List ℕ) (x : ℕ) → Keeps t (next_of_root rules edges index d t x)
  unfolding next_of_root
  root_keeps t x = go (eqb (price_at t d (cell_number d (root d)) x) 0)
    where
      go : (b : Bool) → Keeps t (pick b t (extend d (next_of_span rules edges index d d.last) t (root d) (x + 1)))
      go true = keeps_refl t
      go false = extend_keeps d rules _ (span_keeps d.last) t (root d) (x + 1) (omega arith)

  -- the tree of a rank of a cell that is found
  pub search_keeps : (t : List ℕ) (x c rank : ℕ) → 0 < price_at t d c rank
      → (price_at (next_of_root rules edges index d t x) d c rank ≡ price_at t d c rank)
      × (back_at (next_of_root rules edges index d t x) d c rank ≡ back_at t d c rank)
  unfolding price_at back_at
  search_keeps t x c rank found = go (ltb rank d.ranks) found
    where
      u : List ℕ
      u = next_of_root rules edges index d t x

      go : (b : Bool) → 0 < pick b (price_in t (entry_of d c rank)) 0
          → (pick b (price_in u (entry_of d c rank)) 0 ≡ pick b (price_in t (entry_of d c rank)) 0)
          × (get_or u (entry_of d c rank + 2) 0 ≡ get_or t (entry_of d c rank + 2) 0)
      go true found =
          let f = fourth d c rank in
          let same = (root_keeps t x).trees f.quarter (rw f.is at found) in
          rw f.is (same.price, same.back)
      go false found = absurd (omega arith)
