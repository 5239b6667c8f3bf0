-- The lesser of two numbers as the code and as the definition have it. Assumes nothing.
use mathlib.Core.Path.{◌≡◌, refl}
use mathlib.Core.Bool.{Bool, true, false}
use Prim.Native.Nat.{ℕ, min}
use native.Mathlib.Omega.{arith}
use borrow.Author.Tests.{ltb-true, ltb-false}
use lib.Dec.{ltb}
use Rattle.bits.specs.Bits.{pick}
use Rattle.phrases.specs.Numbers.{lesser}

pub min_is : (a b : ℕ) → min a b ≡ lesser a b
unfolding lesser
min_is a b = go (ltb a b) refl
  where
    go : (x : Bool) → ltb a b ≡ x → min a b ≡ pick x a b
    go true e = let h = ltb-true a b e in omega arith
    go false e = let h = ltb-false a b e in omega arith
