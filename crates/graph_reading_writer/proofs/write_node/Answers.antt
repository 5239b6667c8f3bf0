-- The rule's kind decides which fields the node has. Assumes nothing.
use native.Mathlib.Omega.{arith}
use Rattle.packing.specs.Flat.{rule_at, node_by}
use Rattle.graph_reading_writer.proofs.Trace.{node_width, pair_node, word_node, pair_written, word_written, word_room}
use Rattle.graph_reading_writer.proofs.write_node.Goals as goal

pub write_field-requires : goal.write_field-requires
write_field-requires c =
    let a = c.args in
    omega (arith, c.requires, node_width a.width (node_by (rule_at a.rules.now a.rule) a.rule a.edge) (omega (arith, c.requires)))

pub returns-in-Pair : goal.returns-in-Pair
returns-in-Pair c =
    let a = c.args in
    pair_written a.out.now a.at a.width a.rule a.edge
    (pair_node a.rules.now a.rule a.edge c.rule_at.ensures c.wide.ensures.0 c.in-Pair.is)
    c.write_field.ensures (omega arith)

pub write_field-requires-in-Word : goal.write_field-requires-in-Word
write_field-requires-in-Word c =
    let a = c.args in
    let node = word_node a.rules.now a.rule a.edge c.rule_at.ensures c.wide.ensures.0 c.in-Word.is in
    omega (arith, c.requires, word_room a.out.now a.at a.width a.rule a.edge node)

pub returns-in-Word : goal.returns-in-Word
returns-in-Word c =
    let a = c.args in
    word_written a.out.now a.at a.width a.rule a.edge
    (word_node a.rules.now a.rule a.edge c.rule_at.ensures c.wide.ensures.0 c.in-Word.is)
    c.write_field.ensures c.write_field-in-Word.ensures
    (omega arith)
