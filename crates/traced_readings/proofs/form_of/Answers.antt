-- The length is that of the kind.
use mathlib.Core.Path.{refl}
use mathlib.Core.Bool.{true, false}
use borrow.Author.Rules.{rules}
use Rattle.traced_readings.proofs.Sizes.{size_within}
use Rattle.traced_readings.proofs.form_of.Goals as goal

pub returns-then-graph : goal.returns-then-graph
returns-then-graph c =
    let a = c.args in
    rw (c.if-graph.true, c.graph_reading_length-size.ensures) (refl, size_within _ true c.requires.1 c.requires.3)

pub returns-else-graph : goal.returns-else-graph
returns-else-graph c =
    let a = c.args in
    rw (c.if-graph.false, c.reading_length-size.ensures) (refl, size_within _ false c.requires.1 c.requires.3)
