-- Numbers copied into a part of an array are stored there one behind the other. Assumes nothing.
use mathlib.Core.Path.{◌≡◌, sym}
use mathlib.Core.List.{List, ◌++◌}
use Prim.Native.Nat.{ℕ, ◌+◌, ◌≤◌}
use lib.ListN.{length, take, drop}
use lib.Seq.{drop-drop}
use Rattle.packing.specs.Store.{store_all}
use Rattle.packing.proofs.Store.{store_at}

pub part_stored : (array : List ℕ) (at : ℕ) (l : List ℕ) → at + length l ≤ length array
    → take at array ++ (l ++ drop (length l) (drop at array)) ≡ store_all array at l
part_stored array at l h = rw (drop-drop (length l) at array) (sym (store_at array at l h))
