-- After x turns the blocks of the first x ranks stand in front of what stood beyond them.
use mathlib.Core.Path.{◌≡◌, refl, ◌∙◌}
use mathlib.Core.List.{◌++◌}
use Prim.Native.Nat.{◌+◌, ◌-◌, ◌*◌, ◌≤◌}
use native.Mathlib.Nat.{mul-le-mul_right, zero-mul}
use native.Mathlib.Omega.{arith}
use lib.ListN.{length, drop, length-take, length-drop}
use borrow.Rule.Slice.PartMut.{same_len_mid}
use Rattle.packing.specs.Loop.{iter}
use Rattle.listing.specs.Model.{blocks_at}
use Rattle.listing.proofs.Written.{written_more}
use Rattle.listing.proofs.write_readings.Given as goal

abbrev pub invariant-loop-x : goal.invariant-loop-x
invariant-loop-x l = (l.x ≤ l.m) × (length l.out ≡ length l.initial.out)
    × (l.out ≡ blocks_at l.t l.rules l.d l.form l.x ++ drop (l.x * l.form.size) l.initial.out)

abbrev pub decreases-loop-x : goal.decreases-loop-x
decreases-loop-x l = l.m - l.x
