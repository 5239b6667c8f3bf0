-- The priority queue of a cell: candidates that were met and not found yet, in the table beside the cell's ranks.
-- Nobody need believe this page: the theorems of chart_theory join it to the derivations. Assumes nothing.
use Rattle.std.specs.Prelude.{List, ℕ, ◌+◌, ◌-◌, ◌*◌, ◌/◌, ◌%◌, ltb}
use Rattle.bits.specs.Width.{u32_values}
use Rattle.bits.specs.Bits.{pick}
use Rattle.packing.specs.Loop.{iter}
use Rattle.chart_keys.specs.Keys.{back_pointer, key_unit, key_of, no_key}
use Rattle.chart_table.specs.declared.Layout.{Layout}
use Rattle.chart_table.specs.Table.{entry_of, back_at, beside_at, put_beside, put_key}
use Rattle.chart_tags.specs.Tags.{is_initial, code_of, shifted}
use Rattle.chart_journal.specs.Journal.{keep_four}

-- a candidate's tag, below `tags`, and the back pointer of a tag: a rank of the cell that has a next one, and a code, or the
-- candidate that follows none
unfoldable pub tag_of : List ℕ → Layout → ℕ → ℕ → ℕ → ℕ
tag_of t d number rank back = pick (is_initial (back_pointer back)) 1023 ((rank - 1) * 4 + code_of (back_at t d number (rank - 1)) back)

unfoldable pub tagged_back : List ℕ → Layout → ℕ → ℕ → ℕ
tagged_back t d number tag =
    pick (ltb (tag / 4 + 1) d.ranks) (shifted (back_at t d number (tag / 4)) (tag % 4)) (beside_at t d number 0 / 262144)

-- place y of the queue stands beside rank y + 1 of the cell, as a price plus 1 and a tag, and beside the first rank stands the
-- queue's length, of which no more than the ranks kept is taken
abbrev pub number_key : List ℕ → Layout → ℕ → ℕ → ℕ
number_key t d number n = key_of (n / 1024) (tagged_back t d number (n % 1024))

unfoldable pub queued_key : List ℕ → Layout → ℕ → ℕ → ℕ
queued_key t d number y = number_key t d number (beside_at t d number (y + 1))

unfoldable pub queue_length : List ℕ → Layout → ℕ → ℕ
queue_length t d number = pick (ltb (beside_at t d number 0 % 512) d.ranks) (beside_at t d number 0 % 512) d.ranks

-- the back pointer of a candidate that follows none is kept beside the first rank
unfoldable pub keep_initial : List ℕ → Layout → ℕ → ℕ → List ℕ
keep_initial t d number back =
    pick (is_initial (back_pointer back)) (put_beside t d number 0 (back * 262144 + beside_at t d number 0 % 262144)) t

-- a key that is met as a rank is looked for is written at place y
unfoldable pub put_queued : List ℕ → Layout → ℕ → ℕ → ℕ → ℕ → List ℕ
put_queued t d number rank y key =
    put_beside (keep_initial t d number (key % key_unit % u32_values)) d number (y + 1)
    (key / key_unit * 1024 + tag_of t d number rank (key % key_unit % u32_values))

unfoldable pub move_queued : List ℕ → Layout → ℕ → ℕ → ℕ → List ℕ
move_queued t d number from y = put_beside t d number (y + 1) (beside_at t d number (from + 1))

unfoldable pub put_queue_length : List ℕ → Layout → ℕ → ℕ → List ℕ
put_queue_length t d number m = put_beside t d number 0 (beside_at t d number 0 / 512 * 512 + m)

-- of two places the one with the lesser key, the first where neither is; and of the first m, 0 where the queue is empty
unfoldable pub lesser_place : List ℕ → Layout → ℕ → ℕ → ℕ → ℕ
lesser_place t d number x y = pick (ltb (queued_key t d number y) (queued_key t d number x)) y x

unfoldable pub least_place : List ℕ → Layout → ℕ → ℕ → ℕ
least_place t d number m = iter (lesser_place t d number) 0 m

-- place y of m is given to a key, or, where there is none, to the last of the queue; and a key is pushed behind m
unfoldable pub replace : List ℕ → Layout → ℕ → ℕ → ℕ → ℕ → ℕ → List ℕ
replace t d number rank m y key =
    pick (ltb key no_key) (put_queued t d number rank y key) (put_queue_length (move_queued t d number (m - 1) y) d number (m - 1))

unfoldable pub push : List ℕ → Layout → ℕ → ℕ → ℕ → ℕ → List ℕ
push t d number rank m key = pick (ltb key no_key) (put_queue_length (put_queued t d number rank m key) d number (m + 1)) t

-- the least of the queue and two more keys is written at a rank, and the others are in the queue
unfoldable pub extract_min : List ℕ → Layout → ℕ → ℕ → ℕ → ℕ → List ℕ
extract_min t d number rank lo hi =
    let m = queue_length t d number in
    let y = least_place t d number m in
    let key = queued_key t d number y in
    let pushed = push (put_key t d number rank lo) d number rank m hi in
    pick (ltb 0 m) (pick (ltb key lo) (push (replace (put_key t d number rank key) d number rank m y lo) d number rank m hi) pushed) pushed

-- what the journal k keeps of the table before that: the entries of the first rank and of the rank, and those beside which the least
-- of m queued ones stands, place y, and the place behind the last
unfoldable pub keep_written : (t k : List ℕ) → Layout → ℕ → ℕ → ℕ → ℕ → List ℕ
keep_written t k d number rank m y =
    keep_four t k (record {
      first = entry_of d number 0;
      second = entry_of d number rank;
      third = entry_of d number (y + 1);
      fourth = entry_of d number (m + 1);
    })

abbrev pub keep_min : (t k : List ℕ) → Layout → ℕ → ℕ → List ℕ
keep_min t k d number rank =
    let m = queue_length t d number in
    keep_written t k d number rank m (least_place t d number m)
