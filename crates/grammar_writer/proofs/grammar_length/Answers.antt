-- The head takes 27 bits.
use native.Mathlib.Omega.{arith}
use Rattle.bits.specs.Fields.{widths}
use Rattle.bits.proofs.Fields.{length_block}
use Rattle.sheet_writer.specs.Arrays.{grammar_fields}
use Rattle.grammar_writer.proofs.grammar_length.Goals as goal

pub returns : goal.returns
unfolding widths
returns c =
    let a = c.args in
    let f = a.form in
    λ marks.
    omega (arith, c.rules_bits.ensures.0 marks, c.div_ceil.ensures, length_block (grammar_fields f.marked f.symbols f.words f.rules a.rules.now marks))
