-- No two cells share a number. Where the first entries of neighbouring cells stand: with the span's begin a place later an entry stands as many entries
-- further as there are symbols, and with its end a place later k times as many, since k spans end at place k.
use mathlib.Core.Path.{◌≡◌, refl, sym, ap, subst, ◌∙◌}
use mathlib.Core.Logic.{⊎_elim}
use mathlib.Core.List.{List}
use Prim.Native.Nat.{ℕ, zero, suc, ◌+◌, ◌-◌, ◌*◌, ◌/◌, ◌%◌, ◌≤◌, ◌<◌}
use native.Mathlib.Nat.{eq-or-lt_of_le, suc-mul, mul-suc, add-mul, mul_comm, mul_assoc, mul_left_comm}
use native.Mathlib.Numerals.{add-one}
use native.Mathlib.Decide.{dec_le}
use native.Mathlib.Omega.{arith}
use lib.Arith.{digits_div, digits_mod}
use borrow.Author.Tests.{lt-ltb}
use Rattle.packing.specs.Meaning.{symbol_of}
use Rattle.packing.specs.declared.Sym.{Sym}
use Rattle.chart_table.specs.declared.Layout.{Layout}
use Rattle.chart_table.specs.Table.{cell, cell_number, entry_of, price_in, price_at}

-- how many spans end before place k
abbrev pub spans : ℕ → ℕ
spans k = k * (k - 1) / 2

pub spans_suc : (k : ℕ) → spans (suc k) ≡ spans k + k
spans_suc zero = refl
spans_suc (suc m) =
    let one : suc (suc m) - 1 ≡ suc m = omega arith in
    let two : suc m - 1 ≡ m = omega arith in
    let e : suc (suc m) * (suc (suc m) - 1) ≡ m * m + 3 * m + 2 = rw one (simp (suc-mul, mul-suc) (omega arith)) in
    let e' : suc m * (suc m - 1) ≡ m * m + m = rw two (simp (suc-mul) (omega arith)) in
    omega arith

-- no two cells share a number: it is the span's and the head's, written with the symbols as digits, and the spans that end before place k
-- come before those that end there
pub spans_before : (k m : ℕ) → k < m → spans k + k ≤ spans m
spans_before k zero h = elim h [ ]
spans_before k (suc m) h =
    ⊎_elim (λ e. subst (λ (x : ℕ). spans k + k ≤ spans (suc x)) e (omega (arith, spans_suc k)))
    (λ l. omega (arith, spans_before k m l, spans_suc m)) (eq-or-lt_of_le {n = k} {m = m} (omega arith))

spans_injective : (i k i' k' : ℕ) → i < k → i' < k' → spans k + i ≡ spans k' + i' → (i ≡ i') × (k ≡ k')
spans_injective i k i' k' h h' e = go (dec_le k k') (dec_le k' k)
  where
    go : Dec (k ≤ k') → Dec (k' ≤ k) → (i ≡ i') × (k ≡ k')
    go (yes a) (yes b) = let q : k ≡ k' = omega arith in (let e₂ = rw q at e in omega arith, q)
    go (yes a) (no b) = absurd (omega (arith, spans_before k k' (omega arith)))
    go (no a) (yes b) = absurd (omega (arith, spans_before k' k (omega arith)))
    go (no a) (no b) = absurd (omega arith)

pub digits_injective : (q r q' r' m : ℕ) → r < m → r' < m → q * m + r ≡ q' * m + r' → (q ≡ q') × (r ≡ r')
digits_injective q r q' r' m h h' e = (
  sym (digits_div q h) ∙ ap (λ (n : ℕ). n / m) e ∙ digits_div q' h',
  sym (digits_mod q h) ∙ ap (λ (n : ℕ). n % m) e ∙ digits_mod q' h',
)

pub cell_injective : (d : Layout) (a b : Sym) (i k x y : ℕ) → a.0 < d.symbols → b.0 < d.symbols → i < k → x < y
    → cell_number d (cell a i k) ≡ cell_number d (cell b x y) → (a ≡ b) × (i ≡ x) × (k ≡ y)
unfolding cell_number
cell_injective d a b i k x y s s' l l' e =
    let (q, h) = digits_injective (spans k + i) a.0 (spans y + x) b.0 d.symbols s s' e in
    let (u, v) = spans_injective i k x y l l' q in
    (ap symbol_of h, u, v)

module _ (d : Layout) (a : Sym) (i k : ℕ) where
  pub entry_from_suc : entry_of d (cell_number d (cell a (i + 1) k)) 0 ≡ entry_of d (cell_number d (cell a i k)) 0 + d.symbols * 4
  unfolding entry_of cell_number
  entry_from_suc =
      let e : spans k + (i + 1) ≡ suc (spans k + i) = omega arith in
      rw (e, suc-mul) (omega arith)

  pub entry_to_suc : entry_of d (cell_number d (cell a i (k + 1))) 0 ≡ entry_of d (cell_number d (cell a i k)) 0 + d.symbols * 4 * k
  unfolding entry_of cell_number
  entry_to_suc =
      let e : spans (k + 1) + i ≡ spans k + i + k = rw (add-one k) (omega (arith, spans_suc k)) in
      let m : d.symbols * 4 * k ≡ k * d.symbols * 4 = simp (mul_assoc, mul_comm, mul_left_comm) in
      rw (e, m, add-mul (spans k + i) k d.symbols) (omega arith)

-- the price of a first rank, which is always kept
pub first_price : (t : List ℕ) (d : Layout) (c : ℕ) → 0 < d.ranks → price_at t d c 0 ≡ price_in t (entry_of d c 0)
unfolding price_at
first_price t d c kept = rw (lt-ltb 0 d.ranks kept)
