-- Up to the place reached both are equal, so that the order is that of the rest. Assumes nothing.
use mathlib.Core.Path.{◌≡◌}
use Prim.Native.Nat.{◌-◌, ◌≤◌}
use lib.ListN.{drop}
use Rattle.phrases.specs.Phrases.{word_order}
use Rattle.phrases.specs.Padded.{join}
use Rattle.padded_strings.proofs.join_precedes.Given as goal

abbrev pub invariant-loop-x : goal.invariant-loop-x
invariant-loop-x l = (l.x ≤ 24) × (word_order (join l.a l.b l.i) l.best ≡ word_order (drop l.x (join l.a l.b l.i)) (drop l.x l.best))

abbrev pub decreases-loop-x : goal.decreases-loop-x
decreases-loop-x l = 24 - l.x
