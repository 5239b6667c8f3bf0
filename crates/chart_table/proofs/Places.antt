-- The products in the place of a cell and of an entry stay small, and the lesser of two numbers.
use mathlib.Core.Path.{◌≡◌}
use mathlib.Core.Logic.{⊎_elim}
use Prim.Native.Nat.{ℕ, min, ◌+◌, ◌-◌, ◌*◌, ◌/◌, ◌≤◌, ◌<◌}
use native.Mathlib.Nat.{mul-le-mul}
use native.Mathlib.Omega.{arith}
use lib.Dec.{ltb}
use borrow.Author.Tests.{lt-ltb, le-ltb}
use Rattle.std.proofs.lemmas.Bool.{cases_lt}
use Rattle.bits.specs.Bits.{pick}
use Rattle.chart_table.specs.declared.Cell.{Cell}
use Rattle.chart_table.specs.declared.Layout.{Layout}
use Rattle.chart_table.specs.Table.{last_place, most_ranks, cell_bound, Sized}

pub cell_small : (d : Layout) (c : Cell) → (Sized d) × (c.from ≤ last_place) × (0 < c.to) × (c.to ≤ last_place)
    → (c.to * (c.to - 1) ≤ 961) × ((c.to * (c.to - 1) / 2 + c.from) * d.symbols ≤ 16384)
cell_small d c (h, from, _, to) =
    let k = c.to in
    let x : k * (k - 1) ≤ last_place * last_place = mul-le-mul {n₂ = last_place} {m₂ = last_place} to (omega arith) in
    (x, mul-le-mul {n₁ = k * (k - 1) / 2 + c.from} {n₂ = 512} (omega arith) h.symbols)

pub ranks_small : (c n : ℕ) → c < cell_bound → n ≤ most_ranks → c * (n - 1) ≤ 2199023255552
ranks_small c n hc hn = mul-le-mul {n₁ = c} {m₁ = n - 1} {n₂ = cell_bound} {m₂ = most_ranks} (omega arith) (omega arith)

-- the lesser of two numbers, as definitions pick it
pub min_pick : (m n : ℕ) → min m n ≡ pick (ltb m n) m n
min_pick m n = ⊎_elim (λ l. rw (lt-ltb m n l) (omega arith)) (λ g. rw (le-ltb m n g) (omega arith)) (cases_lt m n)
