-- What remains behind the first i nodes is written from bit `at` on, and at the end nothing remains. Assumes nothing.
use Prim.Native.Nat.{◌+◌}
use native.Mathlib.Nat.{sub-zero}
use native.Mathlib.Omega.{arith}
use Rattle.bits.proofs.Remaining.{all_remain, none_remain, some_within, some_written}
use Rattle.graph_reading_writer.specs.Answer.{node_fields}
use Rattle.graph_reading_writer.proofs.Trace.{node_at, rest, node_remains, rest_end, node_width}
use Rattle.graph_reading_writer.proofs.write_trace.Goals as goal

pub loop-i-init : goal.loop-i-init
loop-i-init c = (omega arith, rw sub-zero all_remain)

pub write_node-at-requires : goal.write_node-at-requires
write_node-at-requires c =
    let a = c.args in
    let l = c.loop-i in
    let w = c.width_below-width.result in
    let node = node_at a.count a.rules.now a.trace.now l.i in
    let left = rest a.count a.rules.now a.trace.now a.n (l.i + 1) in
    let r = node_remains a.count a.rules.now a.trace.now a.n l.i c.width_below-width.ensures.0 (omega arith) (omega arith)
    l.invariant.1 in
    (omega arith, omega arith, omega (arith, some_within (node_fields w node) left r, r.size))

pub loop-i-preserved : goal.loop-i-preserved
loop-i-preserved c =
    let a = c.args in
    let l = c.loop-i in
    let w = c.width_below-width.result in
    let node = node_at a.count a.rules.now a.trace.now l.i in
    let left = rest a.count a.rules.now a.trace.now a.n (l.i + 1) in
    let r = node_remains a.count a.rules.now a.trace.now a.n l.i c.width_below-width.ensures.0 (omega arith) (omega arith)
    l.invariant.1 in
    let e = c.write_node-at.ensures in
    (omega (arith, e.1, node_width w node (omega arith)), some_written (node_fields w node) left r e.0 e.1)

pub shape_of-out : goal.shape_of-out
shape_of-out c = c.loop-i.invariant.1.size

pub returns : goal.returns
returns c =
    let a = c.args in
    let l = c.loop-i in
    (none_remain (rw (rest_end a.count a.rules.now a.trace.now a.n l.i (omega arith)) at l.invariant.1)).1
