-- n is in its field's range, and the place behind the reading is that of its bits. Assumes nothing.
use mathlib.Core.Path.{refl, sym, ◌∙◌}
use native.Mathlib.Omega.{arith}
use Rattle.packing.specs.Source.{bytes}
use Rattle.packing.specs.GraphReading.{path_edges, graph_head_from}
use Rattle.packing.proofs.Bounds.{field_at_range}
use Rattle.graph_reading_reader.proofs.read_head.Goals as goal

pub reading_bits-end-requires : goal.reading_bits-end-requires
reading_bits-end-requires c =
    omega (arith, field_at_range (path_edges c.args.most) (bytes 31 c.args.block.now) c.in-Ok.at (sym c.in-Ok-read.ensures.value))

pub returns : goal.returns
unfolding graph_head_from
returns c =
    let n = field_at_range (path_edges c.args.most) (bytes 31 c.args.block.now) c.in-Ok.at (sym c.in-Ok-read.ensures.value) in
    let long = rw c.reading_bits-end.ensures.0 at (sym c.is_short.ensures ∙ c.if-is_short.false) in
    rw (← c.in-Ok.ensures.value, ← c.in-Ok-read.ensures.value, long, ← c.in-Ok-read-2.ensures.value, c.reading_bits-end.ensures.0)
    (refl, omega (arith, n, c.reading_bits-end.ensures.1))
