-- The loop is the definition's, turn by turn. Assumes nothing.
use mathlib.Core.Path.{◌≡◌}
use Prim.Native.Nat.{◌-◌, ◌*◌, ◌≤◌}
use lib.ListN.{length}
use Rattle.packing.specs.Loop.{iter}
use Rattle.phrases.specs.Padded.{put_string}
use Rattle.specimen.specs.Table.{least_of_cell}
use Rattle.specimen.proofs.fill_table.Given as goal

abbrev pub invariant-loop-c : goal.invariant-loop-c
invariant-loop-c l =
    (l.c ≤ 32 * l.n) × (length l.table ≡ length l.initial.table)
    × (l.table ≡ iter (λ t k. put_string t k (least_of_cell l.rules l.count t k)) l.initial.table l.c)

abbrev pub decreases-loop-c : goal.decreases-loop-c
decreases-loop-c l = 32 * l.n - l.c
