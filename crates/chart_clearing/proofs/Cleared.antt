-- Of a cell whose first entry is all zeros nothing is to be cleared: its last rank found is 0, and zeros stored over zeros are the
-- same.
use mathlib.Core.Path.{◌≡◌, refl, sym, ap}
use mathlib.Core.List.{List, [], ◌∷◌}
use Prim.Native.Nat.{ℕ, zero, suc, ◌+◌, ◌<◌}
use native.Mathlib.Omega.{arith}
use lib.ListN.{get_or, set}
use borrow.Author.Tests.{lt-ltb}
use Rattle.packing.specs.Loop.{iter}
use Rattle.chart_table.specs.declared.Layout.{Layout}
use Rattle.chart_table.specs.Table.{entry_of, beside_at, last_rank, ranks_to_clear, clear_entry, clear_cell, Clear}

zero_again : (t : List ℕ) (at : ℕ) → get_or t at 0 ≡ 0 → set t at 0 ≡ t
zero_again [] at e = refl
zero_again (x ∷ l) zero e = ap (λ (y : ℕ). y ∷ l) (sym e)
zero_again (x ∷ l) (suc at) e = ap (λ (r : List ℕ). x ∷ r) (zero_again l at e)

pub sum_clear : {t : List ℕ} {at low high back beside : ℕ} → low ≡ get_or t at 0 → high ≡ get_or t (at + 1) 0 → back ≡ get_or t (at + 2) 0
    → beside ≡ get_or t (at + 3) 0 → low + high + back + beside ≡ 0 → Clear t at
sum_clear p q r s e = record { low = omega arith; high = omega arith; back = omega arith; beside = omega arith }

module _ (t : List ℕ) (d : Layout) (c : ℕ) (z : Clear t (entry_of d c 0)) where
  entry_clear : clear_entry t d c 0 ≡ t
  unfolding clear_entry
  entry_clear = rw (zero_again t _ z.low, zero_again t _ z.high, zero_again t _ z.back, zero_again t _ z.beside)

  last_clear : last_rank t d c ≡ 0
  unfolding last_rank beside_at
  last_clear = rw (z.high, z.beside)

  pub cell_clear : 0 < d.ranks → t ≡ clear_cell t d c
  unfolding clear_cell ranks_to_clear iter
  cell_clear kept = rw (last_clear, lt-ltb 0 d.ranks kept) (sym entry_clear)
