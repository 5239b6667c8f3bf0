-- After i numbers the arrays hold the state that the run has come to, with no more parts than slots.
use mathlib.Core.Path.{◌≡◌}
use mathlib.Core.List.{[], ◌∷◌}
use Prim.Native.Nat.{◌-◌, ◌*◌, ◌^◌, ◌≤◌}
use lib.ListN.{length, take, drop}
use Rattle.std.proofs.Common.{Some}
use Rattle.packing.specs.Meaning.{symbol_of}
use Rattle.derivation.specs.Walk.{onward, run}
use Rattle.packing.specs.Flat.{rules_of, slots_of}
use Rattle.slots_check.specs.Slots.{state_of}
use Rattle.slots_check.proofs.weight_of.Given as goal

abbrev pub invariant-loop-r : goal.invariant-loop-r
invariant-loop-r l =
    (length l.stack ≡ 24) × (l.at.height ≤ l.at.left) × (l.at.left ≤ 24) × (l.at.place ≤ 2 ^ 33 * l.r-index)
    × (l.at.weight ≤ 2 ^ 33 * l.r-index)
    × (run (rules_of l.rules l.count) (state_of l.slots l.stack (Some l.at)) (drop l.r-index (take (2 * l.n - 1) l.walk))
    ≡ run (rules_of l.rules l.count) (onward (slots_of l.slots l.n 0) (symbol_of 0 ∷ []) 0) (take (2 * l.n - 1) l.walk))
