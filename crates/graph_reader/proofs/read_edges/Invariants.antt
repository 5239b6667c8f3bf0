-- `graph_reader::read_edges` meets its contract: after each turn the edges read so far are those of the definition, and stand in
-- the array. Assumes nothing.
use mathlib.Core.Path.{◌≡◌}
use Prim.Native.Nat.{◌+◌, ◌*◌, ◌≤◌}
use lib.ListN.{length}
use Rattle.packing.specs.Read.{source_of}
use Rattle.graph_reader.proofs.Turns.{ReadSoFar}
use Rattle.graph_reader.proofs.read_edges.Given as goal

abbrev pub invariant-loop-i : goal.invariant-loop-i
invariant-loop-i l =
    (l.at ≤ l.start + 34 * l.i) × (length l.keys ≡ 96)
    × ReadSoFar (source_of l.src) l.words l.places l.count l.start l.initial.edges l.i l.at l.keys l.edges
