-- `heard_reader::read_heard` meets its contract: its test is the definition's. Assumes nothing.
use Rattle.packing.specs.Heard.{heard_block}
use Rattle.heard_reader.proofs.read_heard.Goals as goal

pub returns-then-is_graph : goal.returns-then-is_graph
unfolding heard_block
returns-then-is_graph c = rw (← c.if-is_graph.ensures) c.read_graph.ensures

pub returns : goal.returns
unfolding heard_block
returns c = rw (← c.if-is_graph.ensures) c.read_slots.ensures
