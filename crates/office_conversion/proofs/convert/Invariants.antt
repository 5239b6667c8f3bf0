-- `office_conversion::convert` meets its contract: what is left, converted behind what is done, gives all.
use mathlib.Core.Path.{◌≡◌}
use Prim.Native.Nat.{◌+◌, ◌*◌, ◌≤◌}
use lib.ListN.{length}
use Rattle.office_conversion.proofs.Rules.{ConvertedSoFar}
use Rattle.office_conversion.proofs.convert.Given as goal

abbrev pub invariant-loop-i : goal.invariant-loop-i
invariant-loop-i l =
    (l.p ≤ 3 + 8589934600 * l.i) × (l.k ≤ 10 * l.i)
    × (length l.places ≡ 200)
    × ConvertedSoFar l.sheet l.base.symbols l.base.rules l.initial.rules l.p l.i l.k l.places l.rules
