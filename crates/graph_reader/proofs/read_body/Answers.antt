-- `graph_reader::read_body` meets its contract: P and the number of edges are read, and the edges behind them. Assumes nothing.
use mathlib.Core.Path.{sym}
use native.Mathlib.Omega.{arith}
use Rattle.packing.specs.Meaning.{Graph}
use Rattle.packing.specs.Read.{source_of}
use Rattle.packing.specs.Flat.{edge_numbers}
use Rattle.packing.specs.Graph.{place_count, edge_count, graph_from}
use Rattle.packing.proofs.Bounds.{field_at_range, field_at_next}
use Rattle.packing.proofs.Flat.{length_edges, stored_overlaid}
use Rattle.graph_reader.proofs.read_body.Goals as goal

pub field_at-read-requires-2 : goal.field_at-read-requires-2
field_at-read-requires-2 c =
    let a = c.args in
    omega (arith, field_at_next place_count (source_of a.src) a.at 5 (omega arith) (omega arith) (sym c.in-Ok.ensures))

pub read_edges-requires : goal.read_edges-requires
read_edges-requires c =
    let a = c.args in
    let src = source_of a.src in
    omega (
      arith,
      field_at_range place_count src a.at (sym c.in-Ok.ensures),
      field_at_next place_count src a.at 5 (omega arith) (omega arith) (sym c.in-Ok.ensures),
      field_at_range edge_count src c.in-Ok.next (sym c.in-Ok-read.ensures),
      field_at_next edge_count src c.in-Ok.next 7 (omega arith) (omega arith) (sym c.in-Ok-read.ensures),
    )

pub returns : goal.returns
unfolding graph_from
returns c =
    let a = c.args in
    let (es, e, n, s) = c.in_ok-end.ensures in
    let few = field_at_range edge_count (source_of a.src) c.in-Ok.next (sym c.in-Ok-read.ensures) in
    let g : Graph = record { places = c.in-Ok.places; edges = es } in (
      g,
      rw (← c.in-Ok.ensures, ← c.in-Ok-read.ensures, e),
      rw n,
      rw s (stored_overlaid a.edges.now (edge_numbers es) (omega (arith, length_edges es))),
    )
