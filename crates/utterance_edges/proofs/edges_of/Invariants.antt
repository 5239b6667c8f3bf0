-- `utterance_edges::edges_of` meets its contract: the edges stored so far and those of the slots that are left are the
-- array's. Assumes nothing.
use mathlib.Core.Path.{◌≡◌}
use mathlib.Core.List.{List, ◌++◌}
use Prim.Native.Nat.{◌-◌, ◌*◌, ◌≤◌}
use lib.ListN.{length}
use Rattle.packing.specs.Meaning.{Edge}
use Rattle.packing.specs.Flat.{edge_numbers}
use Rattle.packing.specs.Store.{store_all}
use Rattle.utterance_edges.specs.Edges.{slots_edges}
use Rattle.utterance_edges.proofs.edges_of.Given as goal

abbrev pub invariant-loop-i : goal.invariant-loop-i
invariant-loop-i l =
    (l.p ≤ 15 * l.i) × (l.found ≤ 7 * l.i) × (length l.edges ≡ length l.initial.edges)
    × ((es : List Edge) × (length es ≡ l.found) × (l.edges ≡ store_all l.initial.edges 0 (edge_numbers es))
    × (es ++ slots_edges l.slots (l.count - l.i) l.i l.p ≡ slots_edges l.slots l.count 0 0))
