-- What remains behind the first i nodes is written from bit `at` on, and at the end nothing remains. Assumes nothing.
use Prim.Native.Nat.{◌+◌, ◌*◌, ◌≤◌}
use lib.ListN.{take}
use Rattle.bits.proofs.Remaining.{Remaining}
use Rattle.packing.specs.Source.{flds}
use Rattle.packing.specs.Flat.{nodes_in}
use Rattle.packing.specs.GraphReading.{trace_entries}
use Rattle.graph_reading_writer.proofs.Trace.{rest}
use Rattle.graph_reading_writer.proofs.write_trace.Given as goal

abbrev pub invariant-loop-i : goal.invariant-loop-i
invariant-loop-i l =
    (l.at ≤ 34 + 15 * l.i)
    × Remaining l.initial.out 34 (flds (trace_entries l.count (nodes_in l.rules (take (2 * l.n) l.trace)))) l.out l.at
    (rest l.count l.rules l.trace l.n l.i)
