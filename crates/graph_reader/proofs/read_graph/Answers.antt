-- `graph_reader::read_graph` meets its contract: kind, graph and end are the definition's. Assumes nothing.
use mathlib.Core.Path.{◌≡◌, sym}
use native.Mathlib.Omega.{arith}
use Rattle.packing.specs.Parse.{accepted}
use Rattle.packing.specs.Source.{bytes}
use Rattle.packing.specs.Grammar.{block_kind}
use Rattle.packing.specs.Graph.{graph_block}
use Rattle.packing.proofs.Bounds.{field_at_next}
use Rattle.packing.proofs.Heard.{graph_block_out}
use Rattle.graph_reader.proofs.Graphs.{graph_near, promised_graph}
use Rattle.graph_reader.proofs.read_graph.Goals as goal

pub read_body-requires : goal.read_body-requires
read_body-requires c =
    omega (arith, field_at_next (block_kind 5 12) (bytes 11 c.args.block.now) 0 4 (omega arith) (omega arith) (sym c.in-Ok.ensures))

pub zero_from-requires : goal.zero_from-requires
zero_from-requires c =
    let s = c.args.block.now in
    omega (
      arith,
      field_at_next (block_kind 5 12) (bytes 11 s) 0 4 (omega arith) (omega arith) (sym c.in-Ok.ensures),
      graph_near (bytes 11 s) c.args.words (omega arith) c.in-Ok.next c.in_ok-size.ensures.1,
    )

pub returns-then-zero_from : goal.returns-then-zero_from
unfolding graph_block
returns-then-zero_from c =
    let a = c.args in
    let (g, e, size, laid) = c.in_ok-size.ensures in
    let is : graph_block a.words a.block.now ≡ accepted g = rw (← c.in-Ok.ensures, e, ← c.if-zero_from.ensures) in
    promised_graph a.words _ _ is (graph_block_out a.words a.block.now g is).0 size laid
