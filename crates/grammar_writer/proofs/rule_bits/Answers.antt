-- The widths of a pair rule's fields, and of a word rule's, added up.
use native.Mathlib.Omega.{arith}
use Rattle.bits.specs.Fields.{widths}
use Rattle.grammar_writer.proofs.rule_bits.Goals as goal

pub returns-in-Pair : goal.returns-in-Pair
unfolding widths
returns-in-Pair c = rw c.in-Pair.is (omega arith, omega arith)

pub returns-in-Word : goal.returns-in-Word
unfolding widths
returns-in-Word c = rw c.in-Word.is (omega arith, omega arith)
