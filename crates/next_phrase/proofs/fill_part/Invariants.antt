-- The loop is the definition's, turn by turn. Assumes nothing.
use mathlib.Core.Path.{◌≡◌}
use Prim.Native.Nat.{◌-◌, ◌≤◌}
use lib.ListN.{length}
use Rattle.packing.specs.Loop.{iter}
use Rattle.next_phrase.specs.Table.{add_rule}
use Rattle.next_phrase.proofs.fill_part.Given as goal

abbrev pub invariant-loop-r : goal.invariant-loop-r
invariant-loop-r l =
    (l.r ≤ l.count) × (length l.table ≡ length l.initial.table) × (l.table ≡ iter (add_rule l.rules l.string l.part.from l.part.length) l.initial.table l.r)

abbrev pub decreases-loop-r : goal.decreases-loop-r
decreases-loop-r l = l.count - l.r
