-- What the reader answers tells what is to be written, and that turns back.
use Rattle.packing.specs.Grammar.{marked_sheet}
use Rattle.packing.specs.Conversion.{grammar_to_block}
use Rattle.packing.proofs.Theorems.{grammar_sheet_and_back}
use Rattle.sheet_writer.proofs.Back.{turns_back}
use Rattle.sheet_writer.specs.Answer.{Writes}
use Rattle.grammar_conversion.proofs.Grammars.{told}
use Rattle.grammar_conversion.proofs.grammar_to_block.Goals as goal

pub returns : goal.returns
unfolding grammar_to_block
returns c =
    let a = c.args in
    let r = c.in_ok-sizes.ensures in
    let t = told (marked_sheet a.sheet.now) r.answer c.read_sheet.new.rules c.read_sheet.new.marks r.stands in
    let w : Writes (grammar_to_block a.sheet.now) a.out.now c.write_grammar.result c.write_grammar.new.out =
    rw t.block (rw c.wide.ensures.0 at c.write_grammar.ensures) in
    record { writes = w; turns_back = turns_back (grammar_to_block a.sheet.now) (grammar_sheet_and_back a.sheet.now) a.out.now w }
