-- The numbers of a layout are those of the work table that is asked for.
use mathlib.Core.Path.{◌≡◌, refl, ◌∙◌}
use Prim.Native.Nat.{ℕ, ◌+◌, ◌*◌, ◌/◌}
use native.Mathlib.Nat.{mul_assoc}
use Rattle.chart_table.specs.declared.Layout.{Layout}
use Rattle.chart.specs.Chart.{lay_out}
use Rattle.chart.specs.WorkTable.{table_size}

-- four numbers for each rank of each cell
pub table_is : (S n N : ℕ) {d : Layout} {r : ℕ} → d ≡ lay_out S n N → r ≡ 4 * d.cells * d.ranks → r ≡ table_size S n N
unfolding table_size lay_out
table_is S n N e f = f ∙ rw (e, mul_assoc 4 S (n * (n + 1) / 2))

pub layout_is : (S n N : ℕ) {d : Layout} → d ≡ lay_out S n N → (d.last ≡ n) × (d.ranks ≡ N)
unfolding lay_out
layout_is S n N e = rw e (refl, refl)
