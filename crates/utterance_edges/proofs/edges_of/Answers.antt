-- `utterance_edges::edges_of` meets its contract: the edges stored so far and those of the slots that are left are the
-- array's. Assumes nothing.
use mathlib.Core.Path.{◌≡◌, refl, sym, ◌∙◌}
use mathlib.Core.List.{[], ◌++◌}
use Prim.Native.Nat.{◌+◌, ◌-◌}
use native.Mathlib.Omega.{arith}
use lib.ListN.{length-append}
use Rattle.packing.specs.Flat.{edge_numbers}
use Rattle.packing.specs.Store.{store_all}
use Rattle.packing.proofs.Flat.{length_edges, overlaid_begins, stored_overlaid}
use Rattle.utterance_edges.specs.Edges.{candidate_edges}
use Rattle.utterance_edges.proofs.Edges.{edges_stored, length_candidate_edges, slot_edges_more, slot_edges_end}
use Rattle.utterance_edges.proofs.edges_of.Goals as goal

pub loop-i-init : goal.loop-i-init
unfolding store_all edge_numbers
loop-i-init c =
    let a = c.args in
    let z : a.count - 0 ≡ a.count = omega arith in
    (omega arith, omega arith, refl, ([], refl, refl, rw z))

pub loop-i-preserved : goal.loop-i-preserved
loop-i-preserved c =
    let l = c.loop-i in
    let a = c.args in
    let es = l.invariant.3.0 in
    let n = c.candidates_at-n.result in
    let fs = candidate_edges a.slots.now l.i n (l.p + 1) in
    let m = length_candidate_edges a.slots.now l.i n (l.p + 1) in (
      omega arith,
      omega arith,
      c.slot_edges.auto.edges ∙ l.invariant.2,
      (
        es ++ fs,
        simp length-append (omega arith),
        edges_stored a.edges.now 0 es fs l.invariant.3.2 (omega arith) c.slot_edges.ensures,
        sym (slot_edges_more a.slots.now a.count l.i l.p es c.loop-i-test.true c.candidates_at-n.ensures)
            ∙ l.invariant.3.3,
      ),
    )

pub returns : goal.returns
returns c =
    let l = c.loop-i in
    let a = c.args in
    let es = l.invariant.3.0 in
    let laid = l.invariant.3.2 ∙ stored_overlaid a.edges.now (edge_numbers es) (omega (arith, length_edges es)) in
    rw (sym l.invariant.3.3 ∙ slot_edges_end a.slots.now a.count l.i l.p es (omega arith))
    (sym l.invariant.3.1, overlaid_begins (edge_numbers es) a.edges.now l.edges laid, laid)
