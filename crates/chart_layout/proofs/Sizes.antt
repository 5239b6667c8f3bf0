-- The sizes of a table are small, so that no product on the way passes a machine word.
use Prim.Native.Nat.{ℕ, ◌+◌, ◌*◌, ◌/◌, ◌≤◌}
use native.Mathlib.Nat.{mul-le-mul}
use native.Mathlib.Omega.{arith}
use Rattle.chart_table.specs.declared.Layout.{Layout}
use Rattle.chart_table.specs.Table.{last_place, Sized}

pub spans_small : {n : ℕ} → n ≤ last_place → n * (n + 1) ≤ 992
spans_small {n} h = mul-le-mul {n₂ = 31} {m₂ = 32} h (omega arith)

pub cells_small : {S n : ℕ} → S ≤ 32 → n ≤ last_place → S * (n * (n + 1) / 2) ≤ 15872
cells_small {S} {n} h h' = mul-le-mul {n₂ = 32} {m₂ = 496} h (omega (arith, spans_small h'))

pub numbers_small : {d : Layout} → Sized d → 4 * d.cells * d.ranks ≤ 16777216
numbers_small s = mul-le-mul {n₂ = 65536} {m₂ = 256} (omega (arith, s.cells)) s.ranks
