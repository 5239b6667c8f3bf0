-- `utterance_edges::store_edge` meets its contract: four numbers stored in a row. Assumes nothing.
use mathlib.Core.Path.{◌≡◌}
use mathlib.Core.List.{[], ◌∷◌}
use Prim.Native.Nat.{◌+◌, ◌-◌}
use native.Mathlib.Omega.{arith}
use Rattle.arrays.proofs.Stored.{part_stored}
use Rattle.utterance_edges.proofs.store_edge.Goals as goal

pub returns : goal.returns
returns c =
    let a = c.args in
    let e : a.p + 4 - a.p ≡ 4 = omega arith in
    rw (c.copy_from_slice.ensures.after, e)
    (part_stored a.edges.now a.p (a.from ∷ a.target ∷ a.word ∷ a.cost ∷ []) (omega arith))
