-- The loop's state is as Pending has it: after a node its left part is at hand and its right part pending, and after a leaf the
-- part on top of the stack. With each turn there is less to trace.
use mathlib.Core.Path.{◌≡◌}
use Prim.Native.Nat.{◌-◌, ◌*◌}
use lib.ListN.{length}
use Rattle.chart_trace.specs.RightParts.{pending}
use Rattle.chart_trace.proofs.Pending.{trace_part, Tracing}
use Rattle.chart_trace.proofs.trace_back.Given as goal

abbrev pub invariant-loop-first : goal.invariant-loop-first
invariant-loop-first l =
    (length l.trace ≡ length l.initial.trace)
    × Tracing l.t l.rules l.d l.initial.part.cell.from l.initial.part.cell.to l.initial.trace
    (trace_part l.t l.rules l.d l.initial.part) l.trace (pending l.pending) l.part l.numbers

abbrev pub decreases-loop-first : goal.decreases-loop-first
decreases-loop-first l = 2 * (l.initial.part.cell.to - l.part.cell.from) - length (pending l.pending)
