-- A list whose first numbers are zeros is all zeros where there are no more.
use mathlib.Core.Path.{◌≡◌}
use mathlib.Core.List.{List, ◌++◌, append-nil}
use Prim.Native.Nat.{ℕ, ◌≤◌}
use native.Mathlib.Omega.{arith}
use lib.ListN.{length, drop, replicate, drop_of_length-le}
pub use Rattle.packing.proofs.Zeros.{zeros_more}

pub zeros_end : (l : List ℕ) (n : ℕ) → n ≤ length l → length l ≤ n → replicate n 0 ++ drop n l ≡ replicate (length l) 0
zeros_end l n le ge =
    let e : n ≡ length l = omega arith in
    rw (drop_of_length-le l ge, append-nil, e)
