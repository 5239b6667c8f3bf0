-- The fields of the head and of the walk, written one after the other, are the block's bits in front of what stood there.
use native.Mathlib.Omega.{arith}
use Rattle.packing.specs.Reading.{block_of_reading, reading_length}
use Rattle.reading_writer.proofs.Walk.{walk_room, reading_written}
use borrow.Author.Rules.{rules}
use Rattle.reading_writer.proofs.write_reading.Goals as goal

pub write_field-requires : goal.write_field-requires
unfolding reading_length
write_field-requires c = search rules

pub write_field-requires-2 : goal.write_field-requires-2
unfolding reading_length
write_field-requires-2 c = search rules

pub write_field-requires-3 : goal.write_field-requires-3
unfolding reading_length
write_field-requires-3 c = search rules

pub write_walk-requires : goal.write_walk-requires
write_walk-requires c =
    let a = c.args in
    omega (arith, walk_room a.rules a.n a.weight a.trace.now a.out.now (omega arith) (omega arith))

pub returns : goal.returns
unfolding block_of_reading
returns c =
    let a = c.args in
    reading_written a.rules a.n a.weight a.trace.now a.out.now (omega arith) (omega arith)
    (λ i. grind arith)
    c.write_field.ensures c.write_field-2.ensures c.write_field-3.ensures
    c.write_walk.ensures
