-- The fields at the front and of the trace, written one after the other into zeros, are the block, the zeros behind it and what stood
-- beyond them. Assumes nothing.
use mathlib.Core.Path.{refl}
use native.Mathlib.Omega.{arith}
use Rattle.std.proofs.Common.{length-take-le}
use Rattle.graph_reading_writer.proofs.Trace.{graph_reading_written}
use Rattle.graph_reading_writer.proofs.write_graph_reading.Goals as goal

pub returns : goal.returns
returns c =
    let a = c.args in
    graph_reading_written a.count a.rules.now a.n a.weight a.size a.trace.now a.out.now (omega arith) (omega arith)
    (λ i. grind arith) (rw (c.fill.ensures.after (λ y e. e), length-take-le a.size a.out.now (omega arith)) refl) c.write_field.ensures
    c.write_field-2.ensures c.write_field-3.ensures c.write_trace.ensures
