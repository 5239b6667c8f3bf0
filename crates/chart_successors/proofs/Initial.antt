-- A back pointer that is not of a leaf or a seed has a split.
use mathlib.Core.Path.{◌≡◌, refl}
use mathlib.Core.Bool.{Bool, true, false}
use Prim.Native.Nat.{ℕ, zero, suc, ◌<◌}
use native.Mathlib.Omega.{arith}
use Rattle.chart_keys.specs.declared.BackPointer.{BackPointer}
use Rattle.chart_tags.specs.Tags.{is_initial}

pub inner_split : (b : BackPointer) → is_initial b ≡ false → 0 < b.split
inner_split b e = go b.split refl
  where
    go : (j : ℕ) → b.split ≡ j → 0 < b.split
    go zero s = let z : ◌≡◌ {A = Bool} true false = rw s at e in absurd (let n : ◌≡◌ {A = ℕ} 0 1 = cc in omega arith)
    go (suc j) s = omega arith
