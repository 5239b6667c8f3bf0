-- The byte stored is the one that `put` stores, and no shift loses a bit.
use mathlib.Core.Path.{sym, ap, ◌∙◌}
use Prim.Native.Nat.{◌/◌, ◌%◌, ◌-◌}
use native.Mathlib.Omega.{arith}
use lib.ListN.{get_or, set}
use Rattle.bit_writer.proofs.Part.{put_part, joined_fits, joined_shl, part_lt}
use Rattle.bit_writer.proofs.write_part.Goals as goal

pub overflow_add-y : goal.overflow_add-y
overflow_add-y c =
    let a = c.args in
    record {
      fits = joined_fits (get_or a.out.now (a.at / 8) 0) (8 - a.at % 8) a.width a.value c.lower.result
          (omega arith) (omega arith) (omega arith) c.lower.ensures;
    }

pub overflow_cast-out : goal.overflow_cast-out
overflow_cast-out c =
    let a = c.args in
    record {
      fits = part_lt (get_or a.out.now (a.at / 8) 0) (8 - a.at % 8) a.width a.value c.lower.result
          (omega arith) (omega arith) (omega arith) c.lower.ensures;
    }

pub returns : goal.returns
returns c =
    let a = c.args in
    ap (set a.out.now (a.at / 8)) (joined_shl (get_or a.out.now (a.at / 8) 0) (8 - a.at % 8) a.width a.value c.lower.result
    (omega arith) (omega arith) (omega arith) c.lower.ensures)
    ∙ sym (put_part a.out.now a.at a.width a.value (omega arith) (omega arith) (omega arith))
