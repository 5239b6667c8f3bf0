-- The byte stored is the one that `put` stores: what stood in it is not kept.
use mathlib.Core.Path.{sym}
use native.Mathlib.Omega.{arith}
use Rattle.bit_writer.proofs.Part.{put_end, end_lt}
use Rattle.bit_writer.proofs.write_end.Goals as goal

pub overflow_cast-out : goal.overflow_cast-out
overflow_cast-out c =
    let a = c.args in
    record { fits = end_lt a.width a.value c.lower.result (omega arith) c.lower.ensures }

pub returns : goal.returns
returns c =
    let a = c.args in
    sym (put_end a.width a.value c.lower.result (omega arith) c.lower.ensures a.out.now a.byte
    (grind arith) (omega arith) (omega arith))
