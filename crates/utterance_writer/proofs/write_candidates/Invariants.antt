-- What remains behind the first i candidates is written from bit `at` on, and at the end nothing remains.
use Prim.Native.Nat.{◌+◌, ◌-◌, ◌*◌}
use Rattle.bits.proofs.Remaining.{Remaining}
use Rattle.sheet_writer.specs.Arrays.{candidates_fields}
use Rattle.utterance_writer.proofs.write_candidates.Given as goal

abbrev pub invariant-loop-i : goal.invariant-loop-i
invariant-loop-i l =
    Remaining l.initial.out l.start (candidates_fields l.words l.slots l.p l.n) l.out l.at
    (candidates_fields l.words l.slots (l.p + 2 * l.i) (l.n - l.i))
