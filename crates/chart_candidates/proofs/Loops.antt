-- Loops from a number on: no turn, one turn more, and which turn that is.
use mathlib.Core.Path.{◌≡◌}
use Prim.Native.Nat.{ℕ, ◌+◌, ◌-◌, ◌≤◌}
use native.Mathlib.Omega.{arith}
use Rattle.packing.specs.Loop.{iter}
use Rattle.packing.proofs.Loop.{iter_more}

pub from_none : {A : Type 0} (g : A → ℕ → A) (b : A) (n : ℕ) → iter g b (n - n) ≡ b
unfolding iter
from_none g b n =
    let e : n - n ≡ 0 = omega arith in
    rw e

pub from_more : {A : Type 0} (g : A → ℕ → A) (b : A) (from y : ℕ) → from ≤ y → iter g b (y + 1 - from) ≡ g (iter g b (y - from)) (y - from)
from_more g b from y h =
    let e : y + 1 - from ≡ (y - from) + 1 = omega arith in
    rw (e, iter_more)

pub from_turn : (from y : ℕ) → from ≤ y → from + (y - from) ≡ y
from_turn from y h = omega arith
