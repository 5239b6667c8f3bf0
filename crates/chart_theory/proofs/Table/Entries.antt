-- No two entries share a number, and each lies within the table: a cell's number is its span's and its head's, written with
-- the symbols as digits, an entry's the cell's and the rank's, and the spans that end before place k come before those that
-- end there.
use mathlib.Core.Path.{◌≡◌, refl, sym}
use mathlib.Core.Logic.{◌≢◌}
use mathlib.Core.Bool.{false}
use mathlib.Core.List.{List}
use Prim.Native.Nat.{ℕ, zero, suc, ◌+◌, ◌-◌, ◌*◌, ◌/◌, ◌%◌, ◌≤◌, ◌<◌}
use native.Mathlib.Nat.{mul-suc, mul_comm, mul-le-mul_right}
use native.Mathlib.Numerals.{add-one}
use native.Mathlib.Decide.{dec_le}
use native.Mathlib.Omega.{arith}
use lib.Arith.{digits_lt}
use lib.Dec.{eqb, eqb-suc-zero}
use borrow.Author.Tests.{eqb-false, ne_eqb, lt-ltb, le-ltb}
use Rattle.chart_table.specs.declared.Cell.{Cell}
use Rattle.chart_table.specs.declared.Layout.{Layout}
use Rattle.chart_table.proofs.Cells.{spans, spans_before, digits_injective}
use Rattle.chart_table.proofs.Cells as table
use Rattle.chart_table.specs.Table.{cell_number, entry_of, price_at}
use Rattle.chart_theory.proofs.Table.Cells.{InChart, Planned}

-- cells
module _ {d : Layout} where
  pub cell_below : {c : Cell} → Planned d → InChart d c → cell_number d c < d.cells
  unfolding cell_number
  cell_below {c} planned in_chart =
      let n = d.last in
      let within : spans c.to + c.from < spans (suc n) = omega (arith, spans_before c.to (suc n) (omega (arith, in_chart.within)), in_chart.order) in
      let last : suc n - 1 ≡ n = omega arith in
      let same : spans (suc n) ≡ n * (n + 1) / 2 = rw (last, add-one n, mul_comm n (suc n)) in
      let total : spans (suc n) * d.symbols ≡ d.cells = rw (same, planned) (mul_comm _ d.symbols) in
      let low : (spans c.to + c.from) * d.symbols + c.head.0 < spans (suc n) * d.symbols = digits_lt within in_chart.symbol in
      omega arith

  pub cell_injective : {c c' : Cell} → InChart d c → InChart d c' → cell_number d c ≡ cell_number d c' → c ≡ c'
  cell_injective {c} {c'} in_chart in-chart' e =
      let (a, l, m) = table.cell_injective d c.head c'.head c.from c.to c'.from c'.to in_chart.symbol in-chart'.symbol
      in_chart.order in-chart'.order e in
      rw (a, l, m)

-- entries
module _ (d : Layout) where
  pub entry_injective : (c x c' x' : ℕ) → c < d.cells → c' < d.cells → x < d.ranks → x' < d.ranks
      → entry_of d c x ≡ entry_of d c' x' → (c ≡ c') × (x ≡ x')
  unfolding entry_of
  entry_injective c zero c' zero h h' l l' e = (omega arith, refl)
  entry_injective c zero c' (suc x') h h' l l' e = absurd (omega (arith, rw (eqb-suc-zero x') at e))
  entry_injective c (suc x) c' zero h h' l l' e = absurd (omega (arith, rw (eqb-suc-zero x) at e))
  entry_injective c (suc x) c' (suc x') h h' l l' e =
      let e₂ = rw (eqb-suc-zero x, eqb-suc-zero x') at e in
      let (q, r) = digits_injective c (suc x - 1) c' (suc x' - 1) (d.ranks - 1) (omega arith) (omega arith) (omega arith) in
      (q, omega arith)

  pub entry_within : (c x : ℕ) → c < d.cells → x < d.ranks → entry_of d c x + 4 ≤ 4 * (d.cells * d.ranks)
  unfolding entry_of
  entry_within c zero h l = omega (arith, mul-le-mul_right d.cells l, mul_comm d.cells d.ranks)
  entry_within c (suc x) h l =
      let low : c * (d.ranks - 1) + x < d.cells * (d.ranks - 1) = digits_lt h (omega arith) in
      let last : suc (d.ranks - 1) ≡ d.ranks = omega arith in
      let whole : d.cells * (d.ranks - 1) + d.cells ≡ d.cells * d.ranks = rw last at (sym (mul-suc d.cells (d.ranks - 1))) in
      rw (eqb-suc-zero x) (omega arith)

  -- a number of an entry, which begins at a multiple of 4
  abbrev pub InEntry : (c x z : ℕ) → Type 0
  InEntry c x z = (entry_of d c x ≤ z) × (z < entry_of d c x + 4)

  pub entry_four : (c x : ℕ) → entry_of d c x % 4 ≡ 0
  unfolding entry_of
  entry_four c zero = omega arith
  entry_four c (suc x) = rw (eqb-suc-zero x) (omega arith)

  pub first_injective : (c c' : ℕ) → entry_of d c 0 ≡ entry_of d c' 0 → c ≡ c'
  unfolding entry_of
  first_injective c c' e = omega arith

  -- those of further ranks stand behind those of first ranks
  pub entry_behind : (c c' y : ℕ) → c < d.cells → entry_of d c' (y + 1) ≢ entry_of d c 0
  unfolding entry_of
  entry_behind c c' y h e = omega (arith, rw (ne_eqb (y + 1) 0 (λ z. omega arith)) at e)

-- ranks past the last that is kept are not found
pub past_ranks : (t : List ℕ) (d : Layout) (c x : ℕ) → d.ranks ≤ x → price_at t d c x ≡ 0
unfolding price_at
past_ranks t d c x h = rw (le-ltb x d.ranks h)

pub found_kept : (t : List ℕ) (d : Layout) (c x : ℕ) → 0 < price_at t d c x → x < d.ranks
found_kept t d c x h = go (dec_le d.ranks x)
  where
    go : Dec (d.ranks ≤ x) → x < d.ranks
    go (yes l) = absurd (omega (arith, past_ranks t d c x l))
    go (no l) = omega arith

-- a rank is found where the test for 0 fails
pub found_test : (w : ℕ) → eqb w 0 ≡ false → 0 < w
found_test w e = omega (arith, eqb-false w 0 e)

pub same_entry : (t : List ℕ) (d : Layout) (c x c' x' : ℕ) → x < d.ranks → x' < d.ranks → entry_of d c x ≡ entry_of d c' x'
    → price_at t d c x ≡ price_at t d c' x'
unfolding price_at
same_entry t d c x c' x' l l' e = rw (lt-ltb x d.ranks l, lt-ltb x' d.ranks l', e)
