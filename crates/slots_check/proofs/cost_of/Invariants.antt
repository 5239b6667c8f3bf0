-- What is left of the candidates after k turns costs the word what all of them do.
use mathlib.Core.Path.{◌≡◌}
use Prim.Native.Nat.{◌+◌, ◌-◌, ◌*◌}
use Rattle.packing.specs.Meaning.{word}
use Rattle.derivation.specs.Walk.{cost_of}
use Rattle.packing.specs.Flat.{candidates_of}
use Rattle.slots_check.proofs.cost_of.Given as goal

abbrev pub invariant-loop-k : goal.invariant-loop-k
invariant-loop-k l =
    cost_of (word l.wanted) (candidates_of l.slots (l.count - l.k) (l.start + 2 * l.k)) ≡ cost_of (word l.wanted) (candidates_of l.slots l.count l.start)
