-- Four entries kept at once: each is written behind the one before it, and the count, which stands first, is written once.
use mathlib.Core.Path.{◌≡◌, sym, ◌∙◌}
use mathlib.Core.List.{List}
use Prim.Native.Nat.{ℕ, ◌+◌, ◌/◌, ◌%◌, ◌≤◌, ◌<◌}
use native.Mathlib.Omega.{arith}
use lib.ListN.{length, get_or, set, length-set}
use lib.Seq.{get_or-set_same, set-set, set_comm}
use borrow.Author.Tests.{lt-ltb}
use Rattle.chart_journal.specs.Journal.{most_kept, kept_at, entry_numbers, write_kept, keep_entry, write_four, keep_four}
use Rattle.chart_journal.specs.declared.EntryNumbers.{EntryNumbers}
use Rattle.chart_journal.specs.declared.Places.{Places}

-- the count stands before what is written
count_apart : (k : List ℕ) (n to at : ℕ) (e : EntryNumbers) → 0 < to → write_kept (set k 0 n) to at e ≡ set (write_kept k to at e) 0 n
unfolding write_kept
count_apart k n to at e h =
    rw (
      set_comm k 0 to n (at % 4294967296) (λ z. omega arith),
      set_comm (set k to (at % 4294967296)) 0 (to + 1) n (at / 4294967296) (λ z. omega arith),
      set_comm _ 0 (to + 2) n e.first (λ z. omega arith),
      set_comm _ 0 (to + 3) n e.second (λ z. omega arith),
      set_comm _ 0 (to + 4) n e.third (λ z. omega arith),
      set_comm _ 0 (to + 5) n e.fourth (λ z. omega arith),
    )

written_length : (k : List ℕ) (to at : ℕ) (e : EntryNumbers) → length (write_kept k to at e) ≡ length k
unfolding write_kept
written_length k to at e = simp length-set

-- an entry more, behind n that are kept
keep_one : (t k : List ℕ) (n at : ℕ) → get_or k 0 0 ≡ n → n < most_kept
    → keep_entry t k at ≡ set (write_kept k (kept_at n) at (entry_numbers t at)) 0 (n + 1)
unfolding keep_entry
keep_one t k n at e h = rw (e, lt-ltb n most_kept h)

keep_next : (t k : List ℕ) (n at : ℕ) → 0 < length k → n < most_kept
    → keep_entry t (set k 0 n) at ≡ set (write_kept k (kept_at n) at (entry_numbers t at)) 0 (n + 1)
keep_next t k n at some h =
    keep_one t (set k 0 n) n at (get_or-set_same k 0 n 0 some) h
    ∙ rw (count_apart k n (kept_at n) at (entry_numbers t at) (omega arith)) (set-set (write_kept k (kept_at n) at (entry_numbers t at)) 0 n (n + 1))

-- all four
pub kept_at_once : (t k : List ℕ) (n : ℕ) (at : Places) → n ≡ get_or k 0 0 → n + 4 ≤ most_kept → 0 < length k
    → set (write_four t k (kept_at n) at) 0 (n + 4) ≡ keep_four t k at
unfolding write_four keep_four
kept_at_once t k n at e h some =
    let k₁ = write_kept k (kept_at n) at.first (entry_numbers t at.first) in
    let k₂ = write_kept k₁ (kept_at (n + 1)) at.second (entry_numbers t at.second) in
    let k₃ = write_kept k₂ (kept_at (n + 2)) at.third (entry_numbers t at.third) in
    let l₁ = written_length k (kept_at n) at.first (entry_numbers t at.first) in
    let l₂ = written_length k₁ (kept_at (n + 1)) at.second (entry_numbers t at.second) in
    let l₃ = written_length k₂ (kept_at (n + 2)) at.third (entry_numbers t at.third) in
    let p₁ : kept_at n + 6 ≡ kept_at (n + 1) = omega arith in
    let p₂ : kept_at n + 12 ≡ kept_at (n + 2) = omega arith in
    let p₃ : kept_at n + 18 ≡ kept_at (n + 3) = omega arith in
    let m₂ : n + 1 + 1 ≡ n + 2 = omega arith in
    let m₃ : n + 2 + 1 ≡ n + 3 = omega arith in
    let m₄ : n + 3 + 1 ≡ n + 4 = omega arith in
    sym (rw (
      keep_one t k n at.first (sym e) (omega arith),
      keep_next t k₁ (n + 1) at.second (omega (arith, l₁, some)) (omega arith),
      m₂,
      keep_next t k₂ (n + 2) at.third (omega (arith, l₂, l₁, some)) (omega arith),
      m₃,
      keep_next t k₃ (n + 3) at.fourth (omega (arith, l₃, l₂, l₁, some)) (omega arith),
      m₄,
      p₁,
      p₂,
      p₃,
    ))
