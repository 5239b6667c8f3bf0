-- The work table as a list of numbers: where the cells and their entries stand, and what an entry holds.
-- Every read past the end is 0 and every store past it nothing, so these hold of any table.
-- Nobody need believe this page: the theorems of chart_theory join it to the derivations. Assumes nothing.
use Rattle.std.specs.Prelude.{◌≡◌, List, ℕ, zero, suc, ◌+◌, ◌-◌, ◌*◌, ◌/◌, ◌%◌, ◌≤◌, ◌<◌, ltb, eqb, get_or, set}
use Rattle.bits.specs.Width.{u32_values}
use Rattle.bits.specs.Bits.{pick}
use Rattle.packing.specs.Meaning.{symbol_of}
use Rattle.packing.specs.Loop.{iter}
use Rattle.packing.specs.declared.Sym.{Sym}
use Rattle.chart_keys.specs.Keys.{key_unit, no_key}
use Rattle.chart_table.specs.declared.Cell.{Cell}
use Rattle.chart_table.specs.declared.Layout.{Layout}

-- the last place that a span may reach, the most ranks that are kept of a cell, and bounds of the cells' numbers and of where an entry starts
abbrev pub last_place : ℕ
last_place = 31

abbrev pub most_ranks : ℕ
most_ranks = 256

abbrev pub cell_bound : ℕ
cell_bound = 8589934592

abbrev pub entry_bound : ℕ
entry_bound = 17592186044416

-- a head over a span; the parts of a cell that is split at a place; the cell of the start symbol over all places
abbrev pub cell : Sym → ℕ → ℕ → Cell
cell a i k = record { head = a; from = i; to = k }

abbrev pub left_part : Cell → Sym → ℕ → Cell
left_part c b j = cell b c.from j

abbrev pub right_part : Cell → Sym → ℕ → Cell
right_part c b j = cell b j c.to

abbrev pub root : Layout → Cell
root d = cell (symbol_of 0) 0 d.last

-- the number of a cell, and the entry of a rank of it: rank 0 of all cells stands first, cell by cell, then for each cell its
-- further ranks. An entry is four numbers: the tree's price plus 1 (0: not found), its back pointer as the third, and beside them
-- the cell's queue (chart_queue). From here on a cell is given by its number
unfoldable pub cell_number : Layout → Cell → ℕ
cell_number d c = (c.to * (c.to - 1) / 2 + c.from) * d.symbols + c.head.0

unfoldable pub entry_of : Layout → ℕ → ℕ → ℕ
entry_of d number rank = pick (eqb rank 0) (number * 4) ((d.cells + number * (d.ranks - 1) + (rank - 1)) * 4)

-- the price plus 1 is the first number and the lower 11 bits of the second
abbrev pub price_of : ℕ → ℕ → ℕ
price_of low high = high % 2048 * u32_values + low

abbrev pub price_in : List ℕ → ℕ → ℕ
price_in t at = price_of (get_or t at 0) (get_or t (at + 1) 0)

unfoldable pub price_at : List ℕ → Layout → ℕ → ℕ → ℕ
price_at t d number rank = pick (ltb rank d.ranks) (price_in t (entry_of d number rank)) 0

unfoldable pub back_at : List ℕ → Layout → ℕ → ℕ → ℕ
back_at t d number rank = get_or t (entry_of d number rank + 2) 0

-- what stands beside the tree is the fourth number, and the upper 21 bits of the second: a number below `besides`, 2 ^ 53
abbrev pub besides : ℕ
besides = 9007199254740992

unfoldable pub beside_at : List ℕ → Layout → ℕ → ℕ → ℕ
beside_at t d number rank = get_or t (entry_of d number rank + 1) 0 / 2048 * u32_values + get_or t (entry_of d number rank + 3) 0

-- each is written without the other
unfoldable pub put_beside : List ℕ → Layout → ℕ → ℕ → ℕ → List ℕ
put_beside t d number rank n =
    set (set t (entry_of d number rank + 1) (n / u32_values * 2048 + get_or t (entry_of d number rank + 1) 0 % 2048)) (entry_of d number rank + 3)
    (n % u32_values)

unfoldable pub put_found : List ℕ → Layout → ℕ → ℕ → ℕ → ℕ → List ℕ
put_found t d number rank price back =
    set
    (set (set t (entry_of d number rank) (price % u32_values)) (entry_of d number rank + 1)
    (get_or t (entry_of d number rank + 1) 0 / 2048 * 2048 + price / u32_values))
    (entry_of d number rank + 2) (back % u32_values)

-- beside the first rank stand the queue's length (chart_queue), the last rank found, each below `counts`, and above them a back
-- pointer of the queue
abbrev pub counts : ℕ
counts = 512

unfoldable pub last_rank : List ℕ → Layout → ℕ → ℕ
last_rank t d number = beside_at t d number 0 / 512 % 512

unfoldable pub put_last_rank : List ℕ → Layout → ℕ → ℕ → List ℕ
put_last_rank t d number rank =
    let n = beside_at t d number 0 in
    pick (ltb (last_rank t d number) rank) (put_beside t d number 0 ((n / 262144 * 512 + rank) * 512 + n % 512)) t

unfoldable pub put_key : List ℕ → Layout → ℕ → ℕ → ℕ → List ℕ
put_key t d number rank key =
    pick (ltb key no_key) (put_last_rank (put_found t d number rank (key / key_unit) (key % key_unit)) d number rank) t

-- how many ranks of a cell are found
unfoldable pub count_found : List ℕ → Layout → ℕ → ℕ
count_found t d number = iter (λ m x. pick (eqb (price_at t d number x) 0) m (m + 1)) 0 d.ranks

-- the first rank of a cell that is not found: from x on, of n, and of all that are kept
unfoldable pub missing_from : List ℕ → Layout → ℕ → ℕ → ℕ → ℕ
missing_from t d number zero x = x
missing_from t d number (suc n) x = pick (eqb (price_at t d number x) 0) x (missing_from t d number n (x + 1))

unfoldable pub first_missing : List ℕ → Layout → ℕ → ℕ
first_missing t d number = missing_from t d number d.ranks 0

-- how many ranks of a cell there are up to the last found, of those that are kept, and one where none is found
unfoldable pub ranks_to_clear : List ℕ → Layout → ℕ → ℕ
ranks_to_clear t d number = pick (ltb (last_rank t d number) d.ranks) (last_rank t d number + 1) d.ranks

-- the four numbers of an entry made 0, those of a cell's ranks up to the last found, and of every cell
unfoldable pub clear_entry : List ℕ → Layout → ℕ → ℕ → List ℕ
clear_entry t d number x =
    let at = entry_of d number x in
    set (set (set (set t at 0) (at + 1) 0) (at + 2) 0) (at + 3) 0

unfoldable pub clear_cell : List ℕ → Layout → ℕ → List ℕ
clear_cell t d number = iter (λ u x. clear_entry u d number x) t (ranks_to_clear t d number)

unfoldable pub clear : List ℕ → Layout → List ℕ
clear t d = iter (λ u number. clear_cell u d number) t d.cells

-- an entry of which nothing is left to clear
pub record Clear (t : List ℕ) (at : ℕ) : Type 0 where
  pub low : get_or t at 0 ≡ 0
  pub high : get_or t (at + 1) 0 ≡ 0
  pub back : get_or t (at + 2) 0 ≡ 0
  pub beside : get_or t (at + 3) 0 ≡ 0

-- what the layout's numbers are bounded by
pub record Sized (d : Layout) : Type 0 where
  pub symbols : d.symbols ≤ 32
  pub places : d.last ≤ last_place
  pub ranks : d.ranks ≤ most_ranks
  pub kept : 0 < d.ranks
  pub cells : d.cells ≤ 16384

-- a cell that it has room for
pub record InTable (d : Layout) (c : Cell) : Type 0 where
  pub sized : Sized d
  pub order : c.from < c.to
  pub last : c.to ≤ last_place
