-- What the search for a further rank of the root writes over, put back, leaves the table as it was, whatever it held: each rank that is
-- looked for writes into four entries at most (Written), they are kept before it does, and over a span of n places no more than 2n − 1
-- ranks are looked for, so the journal has room.
use mathlib.Core.Path.{◌≡◌, refl, ap, ◌∙◌}
use mathlib.Core.Bool.{Bool, true, false}
use mathlib.Core.List.{List, []}
use Prim.Native.Nat.{ℕ, zero, suc, ◌+◌, ◌*◌, ◌≤◌, ◌<◌}
use native.Mathlib.Omega.{arith}
use lib.Dec.{ltb, eqb}
use lib.ListN.{length, replicate}
use borrow.Author.Tests.{ltb-true, ne_eqb}
use Rattle.bits.specs.Bits.{pick}
use Rattle.packing.specs.Flat.{rule_at}
use Rattle.packing.specs.declared.Rule.{Rule}
use Rattle.packing.specs.declared.Rule.TheVariants.{Pair, Word}
use Rattle.chart_keys.specs.declared.BackPointer.{BackPointer}
use Rattle.chart_table.specs.declared.Cell.{Cell}
use Rattle.chart_table.specs.declared.Layout.{Layout}
use Rattle.chart_table.specs.Table.{left_part, right_part, root, cell_number, entry_of, price_at}
use Rattle.chart_journal.specs.Journal.{most_kept, kept_at, keep_four, put_back}
use Rattle.chart_queue.specs.Queue.{queue_length, least_place, keep_written, keep_min}
use Rattle.chart_ranks.specs.Ranks.{next_rank}
use Rattle.chart_search.specs.Search.{
  Finder,
  Keeper,
  extend,
  extend_parts,
  advance_pairing,
  back_before,
  next_of_span,
  next_of_root,
  keep_extend,
  keep_parts,
  keep_pairing,
  keep_of_span,
  keep_of_root,
}
use Rattle.chart_steps.proofs.Bounds.{most, most_of_parts}
use Rattle.chart_steps.proofs.Saved.{Saved, undo, Kept, kept_more, kept_none, put_back_lem}
use Rattle.chart_steps.proofs.Written.{written_at, extract_writes, all_undone}

-- from a table t and a journal that holds l to a table u and a journal j, with n more entries kept at most
pub record Undone (n : ℕ) (t : List ℕ) (l : List Saved) (u j : List ℕ) : Type 0 where
  pub list : List Saved
  pub kept : Kept j list
  pub few : length list ≤ length l + n
  pub back : undo list u ≡ undo l t

abbrev pub Undoes : (n : ℕ) (t k u j : List ℕ) → Type 0
Undoes n t k u j = (l : List Saved) → Kept k l → length l + n ≤ most_kept → Undone n t l u j

undoes_refl : (n : ℕ) (t k : List ℕ) → Undoes n t k t k
undoes_refl n t k l kept room = record { list = l; kept = kept; few = omega arith; back = refl }

undoes_trans : (n m : ℕ) (t k u j v i : List ℕ) → Undoes n t k u j → Undoes m u j v i → Undoes (n + m) t k v i
undoes_trans n m t k u j v i p q l kept room =
    let a = p l kept (omega arith) in
    let b = q a.list a.kept (omega (arith, a.few)) in
    record { list = b.list; kept = b.kept; few = omega (arith, a.few, b.few); back = b.back ∙ a.back }

undoes_more : (n m : ℕ) (t k u j : List ℕ) → n ≤ m → Undoes n t k u j → Undoes m t k u j
undoes_more n m t k u j h p l kept room =
    let a = p l kept (omega arith) in
    record { list = a.list; kept = a.kept; few = omega (arith, a.few); back = a.back }

-- a rank
rank_undone : (rules edges index : List ℕ) (d : Layout) (c : Cell) (rank : ℕ) (t k : List ℕ)
    → Undoes 4 t k (next_rank rules edges index d c rank t) (keep_min t k d (cell_number d c) rank)
unfolding next_rank keep_written keep_four
rank_undone rules edges index d c rank t k l kept room =
    let at = cell_number d c in
    let m = queue_length t d at in
    let y = least_place t d at m in
    let e₁ = entry_of d at 0 in
    let e₂ = entry_of d at rank in
    let e₃ = entry_of d at (y + 1) in
    let k₁ = kept_more t k l e₁ kept (omega arith) in
    let k₂ = kept_more t _ _ e₂ k₁ (omega arith) in
    let k₃ = kept_more t _ _ e₃ k₂ (omega arith) in
    record {
      list = _;
      kept = kept_more t _ _ (entry_of d at (m + 1)) k₃ (omega arith);
      few = omega arith;
      back = ap (undo l) (all_undone t (written_at t d at rank) _ (extract_writes t d at rank _ _));
    }

-- with each rank that is looked for four entries are kept
abbrev FinderUndone : Finder → Keeper → Type 0
FinderUndone next keep = (t k : List ℕ) (c : Cell) (rank : ℕ) → c.from < c.to → 0 < rank → Undoes (4 * most c) t k (next t c rank) (keep t k c rank)

module _ (rules : List ℕ) (d : Layout) (next : Finder) (keep : Keeper) (finds : FinderUndone next keep) where
  extend_undone : (t k : List ℕ) (c : Cell) (rank : ℕ) → c.from < c.to → 0 < rank
      → Undoes (4 * most c) t k (extend d next t c rank) (keep_extend d keep t k c rank)
  unfolding extend keep_extend
  extend_undone t k c rank order positive = go (ltb rank d.ranks) (eqb (price_at t d (cell_number d c) rank) 0)
    where
      go : (a b : Bool) → Undoes (4 * most c) t k (pick a (pick b (next t c rank) t) t) (pick a (pick b (keep t k c rank) k) k)
      go true true = finds t k c rank order positive
      go true false = undoes_refl (4 * most c) t k
      go false b = undoes_refl (4 * most c) t k

  parts_undone : (t k : List ℕ) (c : Cell) (b : BackPointer) (x : Rule) → c.from < b.split → b.split < c.to
      → Undoes (4 * most_of_parts c) t k (extend_parts d next t c b x) (keep_parts d next keep t k c b x)
  unfolding extend_parts keep_parts
  parts_undone t k c b (Word h x w) after before = undoes_refl (4 * most_of_parts c) t k
  parts_undone t k c b (Pair h x y w) after before = go (eqb b.right 0)
    where
      right : Cell
      right = right_part c y b.split

      left : Cell
      left = left_part c x b.split

      u : List ℕ
      u = extend d next t right (b.right + 1)

      j : List ℕ
      j = keep_extend d keep t k right (b.right + 1)

      on_right_lem : Undoes (4 * most right) t k u j
      on_right_lem = extend_undone t k right (b.right + 1) before (omega arith)

      on_left : Undoes (4 * most left) u j (extend d next u left (b.left + 1)) (keep_extend d keep u j left (b.left + 1))
      on_left = extend_undone u j left (b.left + 1) after (omega arith)

      go : (z : Bool) → Undoes (4 * most_of_parts c) t k (pick z (extend d next u left (b.left + 1)) u) (pick z (keep_extend d keep u j left (b.left + 1)) j)
      go true = undoes_more (4 * most right + 4 * most left) (4 * most_of_parts c) t k _ _ (omega arith)
          (undoes_trans (4 * most right) (4 * most left) t k u j _ _ on_right_lem on_left)
      go false = undoes_more (4 * most right) (4 * most_of_parts c) t k u j (omega arith) on_right_lem

  pairing_undone : (t k : List ℕ) (c : Cell) (b : BackPointer)
      → Undoes (4 * most_of_parts c) t k (advance_pairing rules d next t c b) (keep_pairing rules d next keep t k c b)
  unfolding advance_pairing keep_pairing
  pairing_undone t k c b = outer (ltb c.from b.split) refl
    where
      x : Rule
      x = rule_at rules b.rule

      inner : (z : Bool) → c.from < b.split → ltb b.split c.to ≡ z
          → Undoes (4 * most_of_parts c) t k (pick z (extend_parts d next t c b x) t) (pick z (keep_parts d next keep t k c b x) k)
      inner true after e = parts_undone t k c b x after (ltb-true b.split c.to e)
      inner false after e = undoes_refl (4 * most_of_parts c) t k

      outer : (z : Bool) → ltb c.from b.split ≡ z
          → Undoes (4 * most_of_parts c) t k (pick z (pick (ltb b.split c.to) (extend_parts d next t c b x) t) t)
          (pick z (pick (ltb b.split c.to) (keep_parts d next keep t k c b x) k) k)
      outer true e = inner (ltb b.split c.to) (ltb-true c.from b.split e) refl
      outer false e = undoes_refl (4 * most_of_parts c) t k

module _ (rules edges index : List ℕ) (d : Layout) where
  span_undone : (fuel : ℕ) → FinderUndone (next_of_span rules edges index d fuel) (keep_of_span rules edges index d fuel)
  unfolding next_of_span keep_of_span
  span_undone zero t k c rank order positive = undoes_refl (4 * most c) t k
  span_undone (suc fuel) t k c rank order positive =
      let parts = pairing_undone rules d _ _ (span_undone fuel) t k c (back_before t d c rank) in
      rw (ne_eqb rank 0 (λ e. omega arith)) (undoes_more (4 * most_of_parts c + 4) (4 * most c) t k _ _ (omega arith)
      (undoes_trans (4 * most_of_parts c) 4 t k _ _ _ _ parts (rank_undone rules edges index d c rank _ _)))

  root_undone : (t k : List ℕ) (x : ℕ) → 0 < d.last
      → Undoes (4 * most (root d)) t k (next_of_root rules edges index d t x) (keep_of_root rules edges index d t k x)
  unfolding next_of_root keep_of_root
  root_undone t k x some = go (eqb (price_at t d (cell_number d (root d)) x) 0)
    where
      go : (b : Bool) → Undoes (4 * most (root d)) t k (pick b t (extend d (next_of_span rules edges index d d.last) t (root d) (x + 1)))
          (pick b k (keep_extend d (keep_of_span rules edges index d d.last) t k (root d) (x + 1)))
      go true = undoes_refl (4 * most (root d)) t k
      go false = extend_undone rules d _ _ (span_undone d.last) t k (root d) (x + 1) some (omega arith)

  -- what was written over in the search for a further rank of the root, put back from a journal that was empty and has room for what is kept
  -- of a path over all places
  pub search_undone : (t : List ℕ) (x room : ℕ) → 0 < d.last → 4 * most (root d) ≤ most_kept → kept_at most_kept ≤ room
      → put_back (keep_of_root rules edges index d t (replicate room 0) x) (next_of_root rules edges index d t x) ≡ t
  search_undone t x room some few enough =
      let undone = root_undone t (replicate room 0) x some [] (kept_none enough) (omega arith) in
      put_back_lem _ undone.list _ undone.kept ∙ undone.back
