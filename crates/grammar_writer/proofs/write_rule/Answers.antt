-- The fields of a pair rule, and of a word rule, one after the other; a word rule's last takes no bits.
use mathlib.Core.Path.{refl}
use native.Mathlib.Omega.{arith}
use Rattle.bits.specs.Fields.{widths}
use Rattle.grammar_writer.proofs.Rule.{pair_stands, word_stands}
use Rattle.grammar_writer.proofs.write_rule.Goals as goal

pub write_start-at-requires : goal.write_start-at-requires
unfolding widths
write_start-at-requires c =
    omega (arith, rw c.in-Pair.is at c.requires.2)

pub write_field-requires : goal.write_field-requires
unfolding widths
write_field-requires c =
    omega (arith, rw c.in-Pair.is at c.requires.2)

pub write_field-requires-in-Pair : goal.write_field-requires-in-Pair
unfolding widths
write_field-requires-in-Pair c =
    omega (arith, rw c.in-Pair.is at c.requires.2)

pub write_start-at-requires-in-Word : goal.write_start-at-requires-in-Word
unfolding widths
write_start-at-requires-in-Word c =
    omega (arith, rw c.in-Word.is at c.requires.2)

pub write_field-requires-in-Word : goal.write_field-requires-in-Word
unfolding widths
write_field-requires-in-Word c =
    omega (arith, rw c.in-Word.is at c.requires.2)

pub returns-in-Pair : goal.returns-in-Pair
returns-in-Pair c =
    let a = c.args in
    let w = c.width_below-width.ensures in
    let start = c.write_start-at.ensures in
    pair_stands a.symbols a.words a.at _ _ _ a.out.now w.0 w.1 start.0 start.1 refl c.in-Pair.is
    c.write_field.ensures c.write_field-in-Pair.ensures

pub returns-in-Word : goal.returns-in-Word
returns-in-Word c =
    let a = c.args in
    let w = c.width_below-width.ensures in
    let v = c.width_below-width-in-Word.ensures in
    let start = c.write_start-at-in-Word.ensures in
    word_stands a.symbols a.words a.at _ _ _ a.out.now w.0 w.1 start.0 start.1 v.0 v.1 refl c.in-Word.is
    c.write_field-in-Word.ensures
