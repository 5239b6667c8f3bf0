-- The block is written where its length fits.
use native.Mathlib.Omega.{arith}
use Rattle.grammar_writer.proofs.write_grammar.Goals as goal

pub write_fields-requires : goal.write_fields-requires
write_fields-requires c =
    (c.requires.0, c.requires.1, omega (arith, c.if-out-length.false, c.grammar_length-length.ensures c.args.marks.now))
