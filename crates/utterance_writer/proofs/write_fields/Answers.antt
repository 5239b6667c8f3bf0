-- The head's fields and the slots', one after the other, are the block's bits in front of what stood there.
use mathlib.Core.Path.{◌∙◌}
use native.Mathlib.Omega.{arith}
use Rattle.bits.specs.Fields.{widths}
use Rattle.bits.proofs.Remaining.{all_remain, one_written}
use Rattle.sheet_writer.specs.Arrays.{utterance_fields}
use Rattle.sheet_writer.proofs.Block.{block_room, block_written}
use Rattle.utterance_writer.proofs.write_fields.Goals as goal

pub write_field-requires : goal.write_field-requires
unfolding widths
write_field-requires c =
    let a = c.args in
    let fs = utterance_fields a.words a.n a.slots.now in
    omega (arith, block_room fs a.out.now c.requires.4)

pub write_field-requires-2 : goal.write_field-requires-2
unfolding widths
write_field-requires-2 c =
    let a = c.args in
    let fs = utterance_fields a.words a.n a.slots.now in
    omega (arith, block_room fs a.out.now c.requires.4)

pub write_slots-requires : goal.write_slots-requires
unfolding widths
write_slots-requires c =
    let a = c.args in
    let fs = utterance_fields a.words a.n a.slots.now in
    omega (arith, block_room fs a.out.now c.requires.4)

pub returns : goal.returns
returns c =
    let a = c.args in
    let fs = utterance_fields a.words a.n a.slots.now in
    let f1 = one_written (all_remain {o = a.out.now} {start = 0} {fs = fs}) c.write_field.ensures in
    let f2 = one_written f1 c.write_field-2.ensures in
    block_written fs a.out.now c.requires.4 (λ i. grind arith) (c.write_slots.ensures ∙ f2.rest)
