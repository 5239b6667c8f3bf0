-- Each turn writes one word more. Assumes nothing.
use mathlib.Core.Path.{◌≡◌}
use mathlib.Core.List.{List}
use Prim.Native.Nat.{ℕ, ◌-◌, ◌≤◌}
use lib.ListN.{length, drop}
use lib.Seq.{paste}
use Rattle.phrases.specs.Numbers.{placed, Bytes}
use Rattle.next_phrase.proofs.write.Given as goal

abbrev pub invariant-loop-x : goal.invariant-loop-x
invariant-loop-x l =
    (l.x ≤ l.n) × (length l.out ≡ length l.initial.out)
    × ((s : List ℕ) → length s ≡ l.n → Bytes s → l.value ≡ placed 6 s → (l.rest ≡ placed 6 (drop l.x s)) × (l.out ≡ paste l.initial.out 0 s l.x))

abbrev pub decreases-loop-x : goal.decreases-loop-x
decreases-loop-x l = l.n - l.x
