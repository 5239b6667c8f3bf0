-- `utterance_edges::slot_edges` meets its contract: the edges stored so far and those that are left are the slot's. Assumes
-- nothing.
use mathlib.Core.Path.{◌≡◌}
use mathlib.Core.List.{List, ◌++◌}
use Prim.Native.Nat.{◌+◌, ◌-◌, ◌*◌}
use lib.ListN.{length}
use Rattle.packing.specs.Meaning.{Edge}
use Rattle.packing.specs.Flat.{edge_numbers}
use Rattle.packing.specs.Store.{store_all}
use Rattle.utterance_edges.specs.Edges.{candidate_edges}
use Rattle.utterance_edges.proofs.slot_edges.Given as goal

abbrev pub invariant-loop-k : goal.invariant-loop-k
invariant-loop-k l =
    (length l.edges ≡ length l.initial.edges)
    × ((es : List Edge) × (length es ≡ l.k) × (l.edges ≡ store_all l.initial.edges l.to (edge_numbers es))
    × (es ++ candidate_edges l.slots l.slot (l.count - l.k) (l.p + 2 * l.k) ≡ candidate_edges l.slots l.slot l.count l.p))
