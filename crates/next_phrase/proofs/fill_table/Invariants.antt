-- The loop is the definition's, turn by turn. Assumes nothing.
use mathlib.Core.Path.{◌≡◌}
use Prim.Native.Nat.{◌-◌, ◌*◌, ◌≤◌}
use lib.ListN.{length}
use Rattle.packing.specs.Loop.{iter}
use Rattle.next_phrase.specs.Table.{part_step}
use Rattle.next_phrase.proofs.fill_table.Given as goal

abbrev pub invariant-loop-p : goal.invariant-loop-p
invariant-loop-p l =
    (l.p ≤ 6 * length l.string) × (length l.table ≡ length l.initial.table) × (l.table ≡ iter (part_step l.rules l.count l.string) l.initial.table l.p)

abbrev pub decreases-loop-p : goal.decreases-loop-p
decreases-loop-p l = 6 * length l.string - l.p
