-- `utterance_edges::slot_edges` meets its contract: the edges stored so far and those that are left are the slot's. Assumes
-- nothing.
use mathlib.Core.Path.{◌≡◌, refl, sym, ◌∙◌}
use mathlib.Core.List.{[], ◌∷◌, ◌++◌}
use Prim.Native.Nat.{◌+◌, ◌-◌}
use native.Mathlib.Nat.{add-zero}
use native.Mathlib.Omega.{arith}
use lib.ListN.{length-append}
use Rattle.packing.specs.Meaning.{edge, word}
use Rattle.packing.specs.Flat.{edge_numbers}
use Rattle.packing.specs.Store.{store_all}
use Rattle.utterance_edges.proofs.Edges.{edges_stored, candidate_edge, candidate_edges_end}
use Rattle.utterance_edges.proofs.slot_edges.Goals as goal

pub loop-k-init : goal.loop-k-init
unfolding store_all edge_numbers
loop-k-init c =
    let a = c.args in
    let z : a.count - 0 ≡ a.count = omega arith in
    (refl, ([], refl, refl, rw (z, add-zero)))

pub loop-k-preserved : goal.loop-k-preserved
unfolding edge_numbers
loop-k-preserved c =
    let l = c.loop-k in
    let a = c.args in
    let es = l.invariant.1.0 in
    let e = edge a.slot (a.slot + 1) (word c.narrow_at-word.result) c.narrow_at-cost.result in (
      c.store_edge.auto.edges ∙ l.invariant.0,
      (
        es ++ (e ∷ []),
        simp length-append (omega arith),
        edges_stored a.edges.now a.to es (e ∷ []) l.invariant.1.2 (omega arith) c.store_edge.ensures,
        sym (candidate_edge a.slots.now a.slot a.count l.k a.p es c.loop-k-test.true c.narrow_at-word.ensures
            c.narrow_at-cost.ensures) ∙ l.invariant.1.3,
      ),
    )

pub returns : goal.returns
returns c =
    let l = c.loop-k in
    let a = c.args in
    rw (sym l.invariant.1.3 ∙ candidate_edges_end a.slots.now a.slot a.count l.k a.p l.invariant.1.0 (omega arith)) l.invariant.1.2
