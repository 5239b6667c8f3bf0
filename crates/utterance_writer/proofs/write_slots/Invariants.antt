-- What remains behind the first i slots is written from bit `at` on, and at the end nothing remains.
use Prim.Native.Nat.{◌-◌, ◌≤◌}
use Rattle.bits.proofs.Remaining.{Remaining}
use Rattle.sheet_writer.specs.Arrays.{slots_fields}
use Rattle.utterance_writer.proofs.write_slots.Given as goal

abbrev pub invariant-loop-i : goal.invariant-loop-i
invariant-loop-i l =
    (l.p ≤ l.at) × Remaining l.initial.out l.start (slots_fields l.words l.slots 0 l.n) l.out l.at (slots_fields l.words l.slots l.p (l.n - l.i))
