-- The head's fields and the rules', one after the other, are the block's bits in front of what stood there.
use mathlib.Core.Path.{◌∙◌}
use native.Mathlib.Omega.{arith}
use Rattle.bits.specs.Fields.{widths}
use Rattle.bits.proofs.Remaining.{all_remain, one_written}
use Rattle.sheet_writer.specs.Arrays.{grammar_fields}
use Rattle.sheet_writer.proofs.Block.{block_room, block_written}
use Rattle.grammar_writer.proofs.write_fields.Goals as goal

pub write_field-requires : goal.write_field-requires
unfolding widths
write_field-requires c =
    let a = c.args in
    let f = a.form in
    let fs = grammar_fields f.marked f.symbols f.words f.rules a.rules.now a.marks.now in
    omega (arith, block_room fs a.out.now c.requires.2)

pub write_field-requires-2 : goal.write_field-requires-2
unfolding widths
write_field-requires-2 c =
    let a = c.args in
    let f = a.form in
    let fs = grammar_fields f.marked f.symbols f.words f.rules a.rules.now a.marks.now in
    omega (arith, block_room fs a.out.now c.requires.2)

pub write_field-requires-3 : goal.write_field-requires-3
unfolding widths
write_field-requires-3 c =
    let a = c.args in
    let f = a.form in
    let fs = grammar_fields f.marked f.symbols f.words f.rules a.rules.now a.marks.now in
    omega (arith, block_room fs a.out.now c.requires.2)

pub overflow_cast-count : goal.overflow_cast-count
overflow_cast-count c =
    omega (arith, c.requires.0)

pub write_field-requires-4 : goal.write_field-requires-4
unfolding widths
write_field-requires-4 c =
    let a = c.args in
    let f = a.form in
    let fs = grammar_fields f.marked f.symbols f.words f.rules a.rules.now a.marks.now in
    omega (arith, block_room fs a.out.now c.requires.2)

pub write_rules-requires : goal.write_rules-requires
unfolding widths
write_rules-requires c =
    let a = c.args in
    let f = a.form in
    let fs = grammar_fields f.marked f.symbols f.words f.rules a.rules.now a.marks.now in
    let room = block_room fs a.out.now c.requires.2 in (
      omega arith,
      c.requires.0,
      c.requires.1,
      omega (
        arith,
        room,
        c.write_field.auto.out,
        c.write_field-2.auto.out,
        c.write_field-3.auto.out,
        c.write_field-4.auto.out,
      ),
    )

pub returns : goal.returns
returns c =
    let a = c.args in
    let f = a.form in
    let fs = grammar_fields f.marked f.symbols f.words f.rules a.rules.now a.marks.now in
    let kind = rw c.kind_of.ensures at c.write_field.ensures in
    let f1 = one_written (all_remain {o = a.out.now} {start = 0} {fs = fs}) kind in
    let f2 = one_written f1 c.write_field-2.ensures in
    let f3 = one_written f2 c.write_field-3.ensures in
    let f4 = one_written f3 c.write_field-4.ensures in
    block_written fs a.out.now c.requires.2 (λ i. grind arith) (c.write_rules.ensures ∙ f4.rest)
