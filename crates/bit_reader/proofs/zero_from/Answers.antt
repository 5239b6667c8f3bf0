-- Where the bytes end a whole byte behind the place or before it, nothing is read; else the bits that are left are one field.
use Prim.Native.Nat.{◌*◌}
use native.Mathlib.Omega.{arith}
use borrow.Author.Tests.{lt-leb}
use lib.ListN.{length}
use Rattle.bits.proofs.End.{past_end, not_ended, end_field}
use Rattle.bit_reader.proofs.zero_from.Goals as goal

pub returns-then-div_ceil-s : goal.returns-then-div_ceil-s
returns-then-div_ceil-s c = not_ended _ _ (omega arith)

pub returns-then-at-total : goal.returns-then-at-total
returns-then-at-total c =
    let a = c.args in
    rw c.read_field.ensures (end_field a.s.now a.at (omega arith) (omega arith))

pub returns-else-at-total : goal.returns-else-at-total
returns-else-at-total c =
    let a = c.args in
    rw (lt-leb a.at (8 * length a.s.now) (omega arith)) (past_end a.s.now a.at (omega arith))
