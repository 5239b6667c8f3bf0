-- The loop's state is that of the back trace, with the weight so far. Where a rank is not found or a node is wrong, the whole spells nothing.
use mathlib.Core.Path.{◌≡◌}
use Prim.Native.Nat.{◌-◌, ◌*◌}
use lib.ListN.{length}
use Rattle.chart_trace.specs.RightParts.{pending}
use Rattle.chart_trace.proofs.Pending.{trace_part, Tracing}
use Rattle.chart_trace.proofs.Weighing.{spelled_part, Weighing}
use Rattle.chart_trace.proofs.checked.trace_checked.Given as goal

abbrev pub invariant-loop-scope : goal.invariant-loop-scope
invariant-loop-scope l =
    (length l.trace ≡ length l.initial.trace)
    × Tracing l.t l.rules l.d l.initial.here.cell.from l.initial.here.cell.to l.initial.trace
    (trace_part l.t l.rules l.d l.initial.here) l.trace (pending l.pending) l.here l.numbers
    × Weighing l.t l.rules l.edges l.scope l.d (spelled_part l.t l.rules l.edges l.scope l.d l.initial.here) (pending l.pending) l.here l.numbers l.weight

abbrev pub decreases-loop-scope : goal.decreases-loop-scope
decreases-loop-scope l = 2 * (l.initial.here.cell.to - l.here.cell.from) - length (pending l.pending)
