-- Found ranks summed over heads and spans are those of all entries of the table.
use mathlib.Core.Path.{◌≡◌, refl, sym, ap, ◌∙◌}
use mathlib.Core.Bool.{Bool, true, false}
use mathlib.Core.Option.{none, some}
use mathlib.Core.List.{List}
use Prim.Native.Nat.{ℕ, zero, suc, ◌+◌, ◌-◌, ◌*◌, ◌/◌, ◌<◌}
use native.Mathlib.Nat.{suc-mul, mul-suc, mul_comm}
use native.Mathlib.Numerals.{add-one}
use native.Mathlib.Omega.{arith}
use borrow.Author.Tests.{lt-ltb, ne_eqb}
use lib.Dec.{eqb}
use Rattle.bits.specs.Bits.{pick}
use Rattle.packing.specs.Loop.{iter}
use Rattle.packing.specs.Meaning.{symbol_of, Grammar, Heard, last_place}
use Rattle.packing.specs.declared.Sym.{Sym}
use Rattle.chart_table.specs.Table.{cell_number, entry_of, price_in, price_at, count_found}
use Rattle.chart_table.proofs.Cells.{spans, spans_suc}
use Rattle.chart_steps.specs.Found as chart
use Rattle.chart_steps.specs.Found.{found_among}
use Rattle.chart.specs.Chart.{lay_out}
use Rattle.open_listing.specs.Stands.{TableEntry, entry, found_once, sum_below, found_over, found_ranks}
use Rattle.open_listing.proofs.Stands.{d, number_of, entry_is}

sum_same : (n : ℕ) {f g : ℕ → ℕ} → ((x : ℕ) → x < n → f x ≡ g x) → sum_below n f ≡ sum_below n g
unfolding sum_below
sum_same zero same = refl
sum_same (suc n) same = rw (sum_same n (λ x l. same x (omega arith)), same n (omega arith))

sum_split : (a b : ℕ) (f : ℕ → ℕ) → sum_below (a + b) f ≡ sum_below a f + sum_below b (λ x. f (a + x))
unfolding sum_below
sum_split a zero f = let none : a + 0 ≡ a = omega arith in ap (λ (n : ℕ). sum_below n f) none ∙ omega arith
sum_split a (suc b) f = let more : a + suc b ≡ suc (a + b) = omega arith in ap (λ (n : ℕ). sum_below n f) more ∙ rw (sum_split a b f) (omega arith)

sum_digits : (a b : ℕ) (f : ℕ → ℕ) → sum_below (a * b) f ≡ sum_below a (λ y. sum_below b (λ x. f (y * b + x)))
unfolding sum_below
sum_digits zero b f = rw (zero_times b) refl
  where
    zero_times : (b : ℕ) → 0 * b ≡ 0
    zero_times b = omega arith
sum_digits (suc a) b f =
    let more : suc a * b ≡ a * b + b = suc-mul a b in
    ap (λ (n : ℕ). sum_below n f) more ∙ sum_split (a * b) b f ∙ ap (λ (n : ℕ). n + sum_below b (λ x. f (a * b + x))) (sum_digits a b f)

sum_spans : (n : ℕ) (f : ℕ → ℕ) → sum_below (spans n) f ≡ sum_below n (λ k. sum_below k (λ i. f (spans k + i)))
unfolding sum_below
sum_spans zero f = refl
sum_spans (suc n) f =
    ap (λ (m : ℕ). sum_below m f) (spans_suc n) ∙ sum_split (spans n) n f ∙ ap (λ (m : ℕ). m + sum_below n (λ i. f (spans n + i))) (sum_spans n f)

sum_plus : (n : ℕ) (f g : ℕ → ℕ) → sum_below n (λ x. f x + g x) ≡ sum_below n f + sum_below n g
unfolding sum_below
sum_plus zero f g = refl
sum_plus (suc n) f g = rw (sum_plus n f g) (omega arith)

sum_first : (n : ℕ) (f : ℕ → ℕ) → sum_below (suc n) f ≡ f 0 + sum_below n (λ x. f (suc x))
unfolding sum_below
sum_first zero f = omega arith
sum_first (suc n) f = rw (sum_first n f) (omega arith)

-- all first ranks, and then the further ranks cell by cell
sum_entries : (C N : ℕ) (f : ℕ → ℕ) (e : ℕ → ℕ → ℕ) → ((c : ℕ) → e c 0 ≡ c) → ((c x : ℕ) → e c (suc x) ≡ C + (c * N + x))
    → sum_below (C * suc N) f ≡ sum_below C (λ c. sum_below (suc N) (λ x. f (e c x)))
sum_entries C N f e first further =
    let size : C * suc N ≡ C + C * N = mul-suc C N ∙ omega arith in
    let each : (c : ℕ) → c < C → sum_below (suc N) (λ x. f (e c x)) ≡ f c + sum_below N (λ x. f (C + (c * N + x))) =
    λ c l. sum_first N (λ x. f (e c x)) ∙ rw (first c) (ap (λ (n : ℕ). f c + n) (sum_same N (λ x m. ap f (further c x)))) in
    ap (λ (n : ℕ). sum_below n f) size ∙ sum_split C (C * N) f ∙ ap (λ (n : ℕ). sum_below C f + n) (sum_digits C N (λ z. f (C + z)))
    ∙ sym (sum_plus C f (λ c. sum_below N (λ x. f (C + (c * N + x))))) ∙ sym (sum_same C each)

-- a count of what is not 0 is a sum
count_sum : (f : ℕ → ℕ) (n : ℕ) → iter (λ m x. pick (eqb (f x) 0) m (m + 1)) 0 n ≡ sum_below n (λ x. pick (eqb (f x) 0) 0 1)
unfolding sum_below iter
count_sum f zero = refl
count_sum f (suc n) = rw (count_sum f n) (go (eqb (f n) 0) (sum_below n (λ x. pick (eqb (f x) 0) 0 1)))
  where
    go : (b : Bool) (m : ℕ) → pick b m (m + 1) ≡ m + pick b 0 1
    go true m = omega arith
    go false m = refl

module _ (g : Grammar) (h : Heard) (table : List ℕ) where
  one_is : (A : Sym) (i k x : ℕ) → found_once (entry g h table A i k x) ≡ pick (eqb (price_at table (d g h) (number_of g h A i k) x) 0) 0 1
  one_is A i k x = rw (entry_is g h table A i k x) (go (eqb (price_at table (d g h) (number_of g h A i k) x) 0) _)
    where
      go : (b : Bool) (e : TableEntry) → found_once (pick b none (some e)) ≡ pick b 0 1
      go true e = refl
      go false e = refl

  pub over_is : (A : Sym) (i k : ℕ) → found_over g h table A i k ≡ count_found table (d g h) (number_of g h A i k)
  unfolding found_over count_found lay_out
  over_is A i k = sum_same 256 (λ x l. one_is A i k x) ∙ sym (count_sum (λ x. price_at table (d g h) (number_of g h A i k) x) 256)

  -- an entry by its number
  abbrev C : ℕ
  C = g.symbols * (last_place h * (last_place h + 1) / 2)

  abbrev at : ℕ → ℕ → ℕ
  at c x = pick (eqb x 0) c (C + c * 255 + (x - 1))

  at_suc : (c x : ℕ) → at c (suc x) ≡ C + (c * 255 + x)
  at_suc c x = rw (ne_eqb (suc x) 0 (λ z. omega arith)) (omega arith)

  at_entry : (c x : ℕ) → x < 256 → price_at table (d g h) c x ≡ price_in table (at c x * 4)
  unfolding price_at entry_of lay_out
  at_entry c zero l = refl
  at_entry c (suc x) l = rw (lt-ltb (suc x) 256 l, ne_eqb (suc x) 0 (λ z. omega arith))

  count_is : (c : ℕ) → count_found table (d g h) c ≡ sum_below 256 (λ x. pick (eqb (price_in table (at c x * 4)) 0) 0 1)
  unfolding count_found lay_out
  count_is c = count_sum (λ x. price_at table (d g h) c x) 256 ∙ sum_same 256 (λ x l. ap (λ (p : ℕ). pick (eqb p 0) 0 1) (at_entry c x l))

  cells_are : C ≡ spans (suc (last_place h)) * g.symbols
  cells_are =
      let n = last_place h in
      let last : suc n - 1 ≡ n = omega arith in
      let same : spans (suc n) ≡ n * (n + 1) / 2 = rw (last, add-one n, mul_comm n (suc n)) in
      rw same (mul_comm g.symbols _)

  pub ranks_are : found_ranks g h table ≡ chart.found_ranks table (d g h)
  unfolding found_ranks found_among lay_out cell_number
  ranks_are =
      let S = g.symbols in
      let q : ℕ → ℕ = λ e. pick (eqb (price_in table (e * 4)) 0) 0 1 in
      let F : ℕ → ℕ = λ c. sum_below 256 (λ x. q (at c x)) in
      let all : sum_below (C * 256) q ≡ sum_below C F = sum_entries C 255 q at (λ c. refl) at_suc in
      let cells : sum_below C F ≡ sum_below (suc (last_place h)) (λ k. sum_below k (λ i. sum_below S (λ a. F ((spans k + i) * S + a)))) =
      ap (λ (n : ℕ). sum_below n F) cells_are ∙ sum_digits (spans (suc (last_place h))) S F
      ∙ sum_spans (suc (last_place h)) (λ y. sum_below S (λ a. F (y * S + a))) in
      sum_same (suc (last_place h)) (λ k l. sum_same k (λ i m. sum_same S (λ a o. over_is (symbol_of a) i k ∙ count_is (number_of g h (symbol_of a) i k)
      ∙ number_is a i k)))
      ∙ sym (count_sum (λ e. price_in table (e * 4)) (C * 256) ∙ all ∙ cells)
    where
      number_is : (a i k : ℕ) → sum_below 256 (λ x. pick (eqb (price_in table (at (number_of g h (symbol_of a) i k) x * 4)) 0) 0 1)
          ≡ sum_below 256 (λ x. pick (eqb (price_in table (at ((spans k + i) * g.symbols + a) x * 4)) 0) 0 1)
      number_is a i k = ap (λ (c : ℕ). sum_below 256 (λ x. pick (eqb (price_in table (at c x * 4)) 0) 0 1)) (cell_is a i k)
        where
          cell_is : (a i k : ℕ) → number_of g h (symbol_of a) i k ≡ (spans k + i) * g.symbols + a
          cell_is a i k = refl
