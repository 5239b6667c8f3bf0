-- What the reader answers tells what is to be written, and that turns back, since a slice of bytes has bytes.
use native.Mathlib.Omega.{arith}
use Rattle.packing.specs.Grammar.{marked_block}
use Rattle.packing.specs.Conversion.{grammar_to_sheet}
use Rattle.packing.proofs.Theorems.{grammar_block_and_back}
use Rattle.sheet_writer.proofs.Back.{turns_back}
use Rattle.sheet_writer.specs.Answer.{Writes}
use Rattle.grammar_conversion.proofs.Grammars.{told}
use Rattle.grammar_conversion.proofs.grammar_to_sheet.Goals as goal

pub returns-then-marked : goal.returns-then-marked
unfolding grammar_to_sheet
returns-then-marked c =
    let a = c.args in
    let r = c.in_ok-sizes.ensures in
    let t = told (marked_block a.block.now) r.answer c.read_marked_block.new.rules c.read_marked_block.new.marks r.stands in
    let stored = rw c.wide-count.ensures.0 at c.join_marks.ensures in
    let w : Writes (grammar_to_sheet a.block.now) a.out.now c.write_sheet.result c.write_sheet.new.out =
    rw (t.joined c.if-marked.true _ _ stored (omega (arith, r.bounds.rules))) (rw c.wide-count.ensures.0 at c.write_sheet.ensures) in
    record {
      writes = w;
      turns_back = turns_back (grammar_to_sheet a.block.now)
          (λ l. grammar_block_and_back a.block.now l (λ i. omega (arith, c.type_inv.block i))) a.out.now w;
    }

pub returns : goal.returns
unfolding grammar_to_sheet
returns c =
    let a = c.args in
    let r = c.in_ok-sizes.ensures in
    let t = told (marked_block a.block.now) r.answer c.read_marked_block.new.rules c.read_marked_block.new.marks r.stands in
    let w : Writes (grammar_to_sheet a.block.now) a.out.now c.write_sheet-2.result c.write_sheet-2.new.out =
    rw (t.plain c.if-marked.false) (rw c.wide-count.ensures.0 at c.write_sheet-2.ensures) in
    record {
      writes = w;
      turns_back = turns_back (grammar_to_sheet a.block.now)
          (λ l. grammar_block_and_back a.block.now l (λ i. omega (arith, c.type_inv.block i))) a.out.now w;
    }
