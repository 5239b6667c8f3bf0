-- The first ranks of all cells stand together at the table's front, and the first pass reads and writes nothing else. So it does the same
-- there in a table that keeps one rank of each cell as in one that keeps many, and what stands behind stays as it is.
use mathlib.Core.Path.{◌≡◌, refl, ap, ◌∙◌}
use mathlib.Core.Bool.{Bool, true, false}
use mathlib.Core.List.{List, ◌++◌}
use Prim.Native.Nat.{ℕ, zero, suc, ◌+◌, ◌-◌, ◌*◌, ◌/◌, ◌%◌, ◌≤◌, ◌<◌}
use native.Mathlib.Omega.{arith}
use lib.Dec.{ltb}
use lib.ListN.{length, get_or, set, length-set, get_or-append}
use lib.Seq.{set-append_left}
use borrow.Author.Tests.{lt-ltb, le-ltb}
use Rattle.bits.specs.Bits.{pick}
use Rattle.packing.specs.Loop.{iter}
use Rattle.packing.specs.Flat.{rule_at}
use Rattle.packing.specs.Meaning.{symbol_of, Grammar, Edge}
use Rattle.packing.specs.declared.Rule.{Rule}
use Rattle.packing.specs.declared.Rule.TheVariants.{Pair, Word}
use Rattle.chart_keys.specs.Keys.{key_unit, no_key, back}
use Rattle.chart_table.specs.declared.Cell.{Cell}
use Rattle.chart_table.specs.declared.Layout.{Layout}
use Rattle.chart_table.specs.Table.{cell, left_part, right_part, cell_number, entry_of, price_at, last_rank, put_found, put_last_rank, put_key}
use Rattle.chart_classes.specs.Classes.{pair_base, class_start, class_end}
use Rattle.chart_candidates.specs.declared.PairRule.{PairRule}
use Rattle.chart_candidates.specs.Candidates.{pair_key, split_seeds, rule_seeds, seeds, leaves}
use Rattle.chart_successors.specs.Successors.{least_initial}
use Rattle.chart_ranks.specs.Ranks.{first_rank}
use Rattle.chart_search.specs.Search.{next_of_span, first_of_heads, first_of_length, first_pass}
use Rattle.chart_theory.proofs.Table.Cells.{InChart}
use Rattle.chart_theory.proofs.Table.Entries.{cell_below}
use Rattle.chart_theory.proofs.Invariant.{Setting}

-- the same cells, with one rank kept of each
abbrev pub single : Layout → Layout
single d = record { symbols = d.symbols; last = d.last; ranks = 1; cells = d.cells }

-- loops that do the same in each turn, and two loops that keep step
iter_same : {A : Type 0} (f g : A → ℕ → A) (b : A) (n : ℕ) → ((x : A) (y : ℕ) → y < n → f x y ≡ g x y) → iter f b n ≡ iter g b n
unfolding iter
iter_same f g b zero h = refl
iter_same f g b (suc n) h = h (iter f b n) n (omega arith) ∙ ap (λ x. g x n) (iter_same f g b n (λ x y l. h x y (omega arith)))

iter_both : {A : Type 0} (P : A → A → Type 0) (f g : A → ℕ → A) (a b : A) (n : ℕ) → P a b
    → ((x y : A) (z : ℕ) → z < n → P x y → P (f x z) (g y z)) → P (iter f a n) (iter g b n)
unfolding iter
iter_both P f g a b zero h s = h
iter_both P f g a b (suc n) h s = s _ _ n (omega arith) (iter_both P f g a b n h (λ x y z l. s x y z (omega arith)))

-- a first rank is written without what stands beside it
first_key : (t : List ℕ) (d : Layout) (c key : ℕ) → put_key t d c 0 key ≡ pick (ltb key no_key) (put_found t d c 0 (key / key_unit) (key % key_unit)) t
unfolding put_key put_last_rank
first_key t d c key = rw (le-ltb (last_rank (put_found t d c 0 (key / key_unit) (key % key_unit)) d c) 0 (omega arith))

module _ (d : Layout) (u r : List ℕ) (size : length u ≡ 4 * d.cells) (kept : 0 < d.ranks) where
  price_plane : (c : ℕ) → c < d.cells → price_at (u ++ r) d c 0 ≡ price_at u (single d) c 0
  unfolding price_at entry_of
  price_plane c l =
      rw (lt-ltb 0 d.ranks kept, get_or-append u r 0 (c * 4) (omega arith), get_or-append u r 0 (c * 4 + 1) (omega arith))

  found_plane : (c price back : ℕ) → c < d.cells → put_found (u ++ r) d c 0 price back ≡ put_found u (single d) c 0 price back ++ r
  unfolding put_found entry_of
  found_plane c price back l =
      rw (
        get_or-append u r 0 (c * 4 + 1) (omega arith),
        set-append_left u r (c * 4) (price % 4294967296) (omega arith),
        set-append_left (set u (c * 4) (price % 4294967296)) r (c * 4 + 1) (get_or u (c * 4 + 1) 0 / 2048 * 2048 + price / 4294967296)
            (simp length-set (omega arith)),
        set-append_left (set (set u (c * 4) (price % 4294967296)) (c * 4 + 1) (get_or u (c * 4 + 1) 0 / 2048 * 2048 + price / 4294967296)) r
            (c * 4 + 2) (back % 4294967296) (simp length-set (omega arith)),
      )

  key_plane : (c key : ℕ) → c < d.cells → put_key (u ++ r) d c 0 key ≡ put_key u (single d) c 0 key ++ r
  key_plane c key l = rw (first_key (u ++ r) d c key, first_key u (single d) c key) (go (ltb key no_key))
    where
      go : (b : Bool) → pick b (put_found (u ++ r) d c 0 (key / key_unit) (key % key_unit)) (u ++ r)
          ≡ pick b (put_found u (single d) c 0 (key / key_unit) (key % key_unit)) u ++ r
      go true = found_plane c _ _ l
      go false = refl

  found_size : (c price back : ℕ) → length (put_found u (single d) c 0 price back) ≡ length u
  unfolding put_found
  found_size c price back = simp length-set

  key_size : (c key : ℕ) → length (put_key u (single d) c 0 key) ≡ length u
  key_size c key = rw (first_key u (single d) c key) (go (ltb key no_key))
    where
      go : (b : Bool) → length (pick b (put_found u (single d) c 0 (key / key_unit) (key % key_unit)) u) ≡ length u
      go true = found_size c (key / key_unit) (key % key_unit)
      go false = refl

module _ {g : Grammar} {es : List Edge} {rules edges index : List ℕ} {d : Layout} (s : Setting g es rules edges index d) (r : List ℕ) where
  -- a table with its front, which has the first ranks
  record Fronted (t u : List ℕ) : Type 0 where
    is : t ≡ u ++ r
    size : length u ≡ 4 * d.cells

  module _ (u : List ℕ) (size : length u ≡ 4 * d.cells) where
    part_price_lem : (c : Cell) → InChart d c → price_at (u ++ r) d (cell_number d c) 0 ≡ price_at u (single d) (cell_number (single d) c) 0
    unfolding cell_number
    part_price_lem c in_chart = price_plane d u r size s.kept (cell_number d c) (cell_below s.planned in_chart)

    split_plane : (rule : PairRule) (c : Cell) (floor best : ℕ) → InChart d c → rule.first.0 < d.symbols → rule.second.0 < d.symbols
        → split_seeds (u ++ r) d rule c floor best ≡ split_seeds u (single d) rule c floor best
    unfolding split_seeds pair_key
    split_plane rule c floor best in_chart l m = iter_same _ _ best (c.to - (c.from + 1)) (λ x y h.
        let j = c.from + 1 + y in
        let left : InChart d (left_part c rule.first j) = record { symbol = l; order = omega arith; within = omega (arith, in_chart.within) } in
        let right : InChart d (right_part c rule.second j) = record { symbol = m; order = omega arith; within = in_chart.within } in
        rw (part_price_lem (left_part c rule.first j) left, part_price_lem (right_part c rule.second j) right))

    rule_plane : (c : Cell) (floor best n : ℕ) (z : Rule) → InChart d c → n < length g.rules → rule_at rules n ≡ z
        → rule_seeds (u ++ r) d c floor best n z ≡ rule_seeds u (single d) c floor best n z
    unfolding rule_seeds
    rule_plane c floor best n (Word h x w) in_chart l e = refl
    rule_plane c floor best n (Pair h x y w) in_chart l e =
        let (first, second) = s.parts h x y n w (rw e at (s.rule_at_lem n l)) in
        split_plane (record { number = n; first = x; second = y; weight = w }) c floor best in_chart first second

    seeds_plane : (c : Cell) (floor best : ℕ) → InChart d c
        → seeds (u ++ r) d rules index c floor best ≡ seeds u (single d) rules index c floor best
    unfolding seeds
    seeds_plane c floor best in_chart =
        iter_same _ _ best (class_end index pair_base c.head.0 - class_start index pair_base c.head.0) (λ x y h.
        let at = class_start index pair_base c.head.0 + y in
        let n = get_or index at 0 in
        let member = (s.indexed.pairs c.head in_chart.symbol n).0 (at, omega arith, omega arith, refl) in
        rule_plane c floor x n (rule_at rules n) in_chart member.0 refl)

    first_plane : (fuel : ℕ) (c : Cell) → InChart d c → 0 < fuel
        → Fronted (next_of_span rules edges index d fuel (u ++ r) c 0) (next_of_span rules edges index (single d) fuel u c 0)
    unfolding next_of_span first_rank least_initial cell_number
    first_plane zero c in_chart l = absurd (omega arith)
    first_plane (suc fuel) c in_chart l = record {
      is = rw (seeds_plane c 0 (leaves rules edges index c 0 no_key) in_chart)
          (key_plane d u r size s.kept (cell_number d c) _ (cell_below s.planned in_chart));
      size = key_size d u r size s.kept (cell_number d c) _ ∙ size;
    }

  heads_plane : (t u : List ℕ) (i k : ℕ) → i < k → k ≤ d.last → Fronted t u
      → Fronted (first_of_heads rules edges index d t i k) (first_of_heads rules edges index (single d) u i k)
  unfolding first_of_heads
  heads_plane t u i k order within front = iter_both Fronted _ _ t u d.symbols front (λ x y a l before.
      rw before.is (first_plane y before.size (k - i) (cell (symbol_of a) i k) (record { symbol = l; order = order; within = within }) (omega arith)))

  length_plane : (t u : List ℕ) (len : ℕ) → 0 < len → len ≤ d.last → Fronted t u
      → Fronted (first_of_length rules edges index d t len) (first_of_length rules edges index (single d) u len)
  unfolding first_of_length
  length_plane t u len positive within front =
      iter_both Fronted _ _ t u (d.last + 1 - len) front (λ x y i l before. heads_plane x y i (i + len) (omega arith) (omega arith) before)

  -- the first pass over a table and over its front
  module _ (u : List ℕ) (size : length u ≡ 4 * d.cells) where
    pass_fronted : Fronted (first_pass rules edges index d (u ++ r)) (first_pass rules edges index (single d) u)
    unfolding first_pass
    pass_fronted =
        iter_both Fronted _ _ (u ++ r) u d.last (record { is = refl; size = size })
        (λ x y n l before. length_plane x y (n + 1) (omega arith) (omega arith) before)

    pub pass_plane : first_pass rules edges index d (u ++ r) ≡ first_pass rules edges index (single d) u ++ r
    pass_plane = pass_fronted.is

    pub pass_size : length (first_pass rules edges index (single d) u) ≡ 4 * d.cells
    pass_size = pass_fronted.size
