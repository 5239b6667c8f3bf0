-- `graph_reader::read_edges` meets its contract: after each turn the edges read so far are those of the definition, and stand in
-- the array. Assumes nothing.
use mathlib.Core.Path.{refl, sym}
use native.Mathlib.Omega.{arith}
use lib.ListN.{length-set}
use Rattle.std.proofs.lemmas.Result.{err_from_is_err_and}
use Rattle.packing.specs.Read.{source_of}
use Rattle.packing.specs.Flat.{edge_numbers}
use Rattle.graph_reader.proofs.Edges.{edge_near}
use Rattle.graph_reader.proofs.Turns.{none_passed, all_passed, edge_refused, edge_repeated, edge_passed}
use Rattle.graph_reader.proofs.read_edges.Goals as goal

pub loop-i-init : goal.loop-i-init
loop-i-init c = (omega arith, refl, none_passed _ _ _ _ _ _ _)

pub returns-in_err-e : goal.returns-in_err-e
returns-in_err-e c =
    let p = err_from_is_err_and c.from_residual.result c.from_residual.ensures.1 in
    rw (p.1, p.2) (edge_refused _ _ _ _ _ _ c.loop-i.invariant.2 c.loop-i-test.true c.in_err-e.ensures)

pub edge_key-key-requires : goal.edge_key-key-requires
edge_key-key-requires c =
    let a = c.args in
    let n = edge_near (source_of a.src) a.words a.places (omega arith) (omega arith) c.loop-i.at (sym c.in_ok-e.ensures) in
    (n.0, n.1, n.2)

pub returns-then-seen : goal.returns-then-seen
returns-then-seen c =
    let a = c.args in
    let n = edge_near (source_of a.src) a.words a.places (omega arith) (omega arith) c.loop-i.at (sym c.in_ok-e.ensures) in
    edge_repeated _ _ _ _ _ _ c.loop-i.invariant.2 c.loop-i-test.true c.in_ok-e.ensures (n.1, n.2)
    (rw c.edge_key-key.ensures at c.seen.ensures) c.if-seen.true

pub loop-i-preserved : goal.loop-i-preserved
unfolding edge_numbers
loop-i-preserved c =
    let a = c.args in
    let l = c.loop-i in
    let n = edge_near (source_of a.src) a.words a.places (omega arith) (omega arith) l.at (sym c.in_ok-e.ensures) in (
      omega (arith, l.invariant.0, n.3),
      simp length-set l.invariant.1,
      edge_passed _ _ _ _ _ _ l.invariant.2 c.loop-i-test.true c.in_ok-e.ensures (n.1, n.2) (rw c.edge_key-key.ensures at c.seen.ensures)
          c.if-seen.false c.edge_key-key.ensures (omega (arith, c.loop-i-test.true, l.invariant.1, c.requires)) c.store_edge.ensures,
    )

pub returns : goal.returns
returns c = let p = c.loop-i.invariant.2 in
    (p.es, all_passed _ _ _ _ _ _ p (omega arith), omega (arith, p.size), p.stored)
