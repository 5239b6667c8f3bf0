-- The block's first bits say which kind it has.
use mathlib.Core.Path.{sym, ◌∙◌}
use Rattle.checker.proofs.check_heard.Goals as goal

pub returns-then-is_graph : goal.returns-then-is_graph
returns-then-is_graph c =
    rw (sym c.is_graph.ensures ∙ c.if-is_graph.true) c.check_graph.ensures

pub returns : goal.returns
returns c =
    rw (sym c.is_graph.ensures ∙ c.if-is_graph.false) c.check_slots.ensures
