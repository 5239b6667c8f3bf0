-- Laws of loops: no turn, one turn more, the end, and what is kept by each turn. Assumes nothing.
use mathlib.Core.Path.{◌≡◌, ap}
use Prim.Native.Nat.{ℕ, zero, suc, ◌+◌, ◌≤◌, ◌<◌}
use native.Mathlib.Numerals.{add-one}
use native.Mathlib.Omega.{arith}
use Rattle.packing.specs.Loop.{iter}

pub iter_more : {A : Type 0} (g : A → ℕ → A) (b : A) (n : ℕ) → iter g b (n + 1) ≡ g (iter g b n) n
unfolding iter
iter_more g b n = rw add-one

pub iter_end : {A : Type 0} (g : A → ℕ → A) (b : A) (m n : ℕ) → m ≤ n → n ≤ m → iter g b m ≡ iter g b n
iter_end g b m n le ge = ap (iter g b) (omega arith)

-- what holds at the start and is kept by each turn holds at the end
pub iter_keeps : {A : Type 0} (P : ℕ → A → Type 0) (g : A → ℕ → A) (b : A) (n : ℕ) → P 0 b → ((x : ℕ) (u : A) → x < n → P x u → P (suc x) (g u x))
    → P n (iter g b n)
unfolding iter
iter_keeps P g b zero h s = h
iter_keeps P g b (suc n) h s = s n (iter g b n) (omega arith) (iter_keeps P g b n h (λ x u l. s x u (omega arith)))
