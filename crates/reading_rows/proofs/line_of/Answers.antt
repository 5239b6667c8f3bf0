-- A reading is of slots or of a graph.
use Rattle.reading_rows.proofs.Says.{says_graph, says_slots}
use borrow.Author.Rules.{rules}
use Rattle.reading_rows.proofs.line_of.Goals as goal

pub returns-then-s : goal.returns-then-s
returns-then-s c = (
  c.graph_line.ensures.0,
  says_graph c.args.rules.now c.args.s c.args.block.now
      c.graph_line.result _ c.if-s.true c.graph_line.ensures.1,
)

pub returns : goal.returns
returns c = (
  c.slots_line.ensures.0,
  says_slots c.args.rules.now c.args.s c.args.block.now
      c.slots_line.result _ c.if-s.false c.slots_line.ensures.1,
)
