-- The journal: entries of the table as they were, and the table with them put back.
-- Nobody need believe this page: that what a search overwrites is put back is a theorem (chart_steps/proofs/Undo). Assumes nothing.
use Rattle.std.specs.Prelude.{List, ℕ, zero, suc, ◌+◌, ◌*◌, ◌/◌, ◌%◌, ◌<◌, ltb, get_or, set}
use Rattle.bits.specs.Width.{u32_values}
use Rattle.bits.specs.Bits.{pick}
use Rattle.chart_journal.specs.declared.EntryNumbers.{EntryNumbers}
use Rattle.chart_journal.specs.declared.Places.{Places}

-- the most entries that are kept
abbrev pub most_kept : ℕ
most_kept = 188

-- a bound of where an entry of the table starts
abbrev pub entry_bound : ℕ
entry_bound = 17592186044416

-- where the kept entry x stands
abbrev pub kept_at : ℕ → ℕ
kept_at x = 1 + 6 * x

-- the numbers of the entry that starts at a place of the table
abbrev pub entry_numbers : List ℕ → ℕ → EntryNumbers
entry_numbers t at = record { first = get_or t at 0; second = get_or t (at + 1) 0; third = get_or t (at + 2) 0; fourth = get_or t (at + 3) 0 }

-- where it starts and its numbers, written to a place of the journal k
unfoldable pub write_kept : (k : List ℕ) → (to at : ℕ) → EntryNumbers → List ℕ
write_kept k to at e =
    set (set (set (set (set (set k to (at % u32_values)) (to + 1) (at / u32_values)) (to + 2) e.first) (to + 3) e.second) (to + 4) e.third) (to + 5)
    e.fourth

-- the entry that starts at a place of the table t is kept in the journal k, if that has room
unfoldable pub keep_entry : (t k : List ℕ) → ℕ → List ℕ
unfolding write_kept
keep_entry t k at =
    let n = get_or k 0 0 in
    pick (ltb n most_kept) (set (write_kept k (kept_at n) at (entry_numbers t at)) 0 (n + 1)) k

-- four places that entries start at
pub record Below (at : Places) : Type 0 where
  pub first : at.first < entry_bound
  pub second : at.second < entry_bound
  pub third : at.third < entry_bound
  pub fourth : at.fourth < entry_bound

-- the entries there, written one behind another, and kept
unfoldable pub write_four : (t k : List ℕ) → ℕ → Places → List ℕ
write_four t k to at =
    write_kept (write_kept (write_kept (write_kept k to at.first (entry_numbers t at.first)) (to + 6) at.second (entry_numbers t at.second))
    (to + 12) at.third (entry_numbers t at.third)) (to + 18) at.fourth (entry_numbers t at.fourth)

unfoldable pub keep_four : (t k : List ℕ) → Places → List ℕ
keep_four t k at = keep_entry t (keep_entry t (keep_entry t (keep_entry t k at.first) at.second) at.third) at.fourth

-- the kept entry x is put back
unfoldable pub restore_entry : (k : List ℕ) → ℕ → List ℕ → List ℕ
restore_entry k x t =
    let from = kept_at x in
    let at = get_or k (from + 1) 0 * u32_values + get_or k from 0 in
    set (set (set (set t (at + 0) (get_or k (from + 2) 0)) (at + 1) (get_or k (from + 3) 0)) (at + 2) (get_or k (from + 4) 0)) (at + 3) (get_or k (from + 5) 0)

-- the first n are, the last of them first; and all of them
unfoldable pub restore_all : (k : List ℕ) → ℕ → List ℕ → List ℕ
restore_all k zero t = t
restore_all k (suc n) t = restore_all k n (restore_entry k n t)

abbrev pub put_back : (k t : List ℕ) → List ℕ
put_back k t = restore_all k (get_or k 0 0) t
