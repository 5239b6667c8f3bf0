-- The search: the ranks of a cell found one after another with those of its parts, the first ranks of all cells, the further
-- ranks of the root.
-- Nobody need believe this page: the theorems of chart_theory join it to the derivations. Assumes nothing.
use Rattle.std.specs.Prelude.{List, ℕ, zero, suc, ◌+◌, ◌-◌, ltb, eqb}
use Rattle.bits.specs.Bits.{pick}
use Rattle.packing.specs.Loop.{iter}
use Rattle.packing.specs.Meaning.{symbol_of}
use Rattle.packing.specs.Flat.{rule_at}
use Rattle.packing.specs.declared.Rule.{Rule}
use Rattle.packing.specs.declared.Rule.TheVariants.{Pair, Word}
use Rattle.chart_keys.specs.declared.BackPointer.{BackPointer}
use Rattle.chart_keys.specs.Keys.{back_pointer}
use Rattle.chart_table.specs.declared.Cell.{Cell}
use Rattle.chart_table.specs.declared.Layout.{Layout}
use Rattle.chart_table.specs.Table.{cell, left_part, right_part, root, cell_number, price_at, back_at}
use Rattle.chart_queue.specs.Queue.{keep_min}
use Rattle.chart_ranks.specs.Ranks.{first_rank, next_rank}

-- what finds a rank of a cell in a table
abbrev pub Finder : Type 0
Finder = List ℕ → Cell → ℕ → List ℕ

-- a rank of a cell is looked for where it is kept and not found
unfoldable pub extend : Layout → Finder → List ℕ → Cell → ℕ → List ℕ
extend d next t c rank =
    pick (ltb rank d.ranks) (pick (eqb (price_at t d (cell_number d c) rank) 0) (next t c rank) t) t

unfoldable pub extend_parts : Layout → Finder → List ℕ → Cell → BackPointer → Rule → List ℕ
extend_parts d next t c b (Pair h x y w) =
    let right = extend d next t (right_part c y b.split) (b.right + 1) in
    pick (eqb b.right 0) (extend d next right (left_part c x b.split) (b.left + 1)) right
extend_parts d next t c b (Word h x w) = t

-- what may succeed a found pairing is in the table
unfoldable pub advance_pairing : List ℕ → Layout → Finder → List ℕ → Cell → BackPointer → List ℕ
advance_pairing rules d next t c b =
    pick (ltb c.from b.split) (pick (ltb b.split c.to) (extend_parts d next t c b (rule_at rules b.rule)) t) t

-- the back pointer of the rank before one
unfoldable pub back_before : List ℕ → Layout → Cell → ℕ → BackPointer
back_before t d c rank = back_pointer (back_at t d (cell_number d c) (rank - 1))

module _ (rules edges index : List ℕ) (d : Layout) where
  -- the table with a rank of a cell, where the ranks below are found; any fuel of at least the span's length serves
  unfoldable pub next_of_span : ℕ → List ℕ → Cell → ℕ → List ℕ
  next_of_span zero t c rank = t
  next_of_span (suc fuel) t c rank =
      pick (eqb rank 0) (first_rank rules edges index d c t)
      (next_rank rules edges index d c rank
      (advance_pairing rules d (next_of_span fuel) t c (back_before t d c rank)))

  -- the first rank of every head over a span, over every span of a length, and over every span, shorter ones first
  unfoldable pub first_of_heads : List ℕ → ℕ → ℕ → List ℕ
  first_of_heads t i k = iter (λ x a. next_of_span (k - i) x (cell (symbol_of a) i k) 0) t d.symbols

  unfoldable pub first_of_length : List ℕ → ℕ → List ℕ
  first_of_length t len = iter (λ x i. first_of_heads x i (i + len)) t (d.last + 1 - len)

  unfoldable pub first_pass : List ℕ → List ℕ
  first_pass t = iter (λ x y. first_of_length x (y + 1)) t d.last

  -- the further ranks of the root: each is looked for where the one before it is found
  unfoldable pub next_of_root : List ℕ → ℕ → List ℕ
  next_of_root t x =
      pick (eqb (price_at t d (cell_number d (root d)) x) 0) t (extend d (next_of_span d.last) t (root d) (x + 1))

  -- up to one that is not found: from x on, of n, and of all that are kept
  unfoldable pub further_from : ℕ → List ℕ → ℕ → List ℕ
  further_from zero t x = t
  further_from (suc n) t x = pick (eqb (price_at t d (cell_number d (root d)) x) 0) t (further_from n (next_of_root t x) (x + 1))

  unfoldable pub search : List ℕ → List ℕ
  search t = further_from (d.ranks - 1) (first_pass t) 0

-- What a journal keeps of the entries that these write over, each before it is written: what keeps a rank of a cell, of the table and the
-- journal before.
abbrev pub Keeper : Type 0
Keeper = (t k : List ℕ) → Cell → ℕ → List ℕ

unfoldable pub keep_extend : Layout → Keeper → (t k : List ℕ) → Cell → ℕ → List ℕ
keep_extend d keep t k c rank =
    pick (ltb rank d.ranks) (pick (eqb (price_at t d (cell_number d c) rank) 0) (keep t k c rank) k) k

unfoldable pub keep_parts : Layout → Finder → Keeper → (t k : List ℕ) → Cell → BackPointer → Rule → List ℕ
keep_parts d next keep t k c b (Pair h x y w) =
    let right = extend d next t (right_part c y b.split) (b.right + 1) in
    let kept = keep_extend d keep t k (right_part c y b.split) (b.right + 1) in
    pick (eqb b.right 0) (keep_extend d keep right kept (left_part c x b.split) (b.left + 1)) kept
keep_parts d next keep t k c b (Word h x w) = k

unfoldable pub keep_pairing : List ℕ → Layout → Finder → Keeper → (t k : List ℕ) → Cell → BackPointer → List ℕ
keep_pairing rules d next keep t k c b =
    pick (ltb c.from b.split) (pick (ltb b.split c.to) (keep_parts d next keep t k c b (rule_at rules b.rule)) k) k

module _ (rules edges index : List ℕ) (d : Layout) where
  unfoldable pub keep_of_span : ℕ → (t k : List ℕ) → Cell → ℕ → List ℕ
  keep_of_span zero t k c rank = k
  keep_of_span (suc fuel) t k c rank =
      let next = next_of_span rules edges index d fuel in
      let b = back_before t d c rank in
      keep_min (advance_pairing rules d next t c b) (keep_pairing rules d next (keep_of_span fuel) t k c b) d (cell_number d c) rank

  unfoldable pub keep_of_root : (t k : List ℕ) → ℕ → List ℕ
  keep_of_root t k x =
      pick (eqb (price_at t d (cell_number d (root d)) x) 0) k (keep_extend d (keep_of_span d.last) t k (root d) (x + 1))
