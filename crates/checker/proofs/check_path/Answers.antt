-- The nodes stand in the block that was read, so the weight of the derivation that has them is that of the reading's path.
use mathlib.Core.Path.{◌≡◌, sym}
use Prim.Native.Nat.{◌-◌, ◌*◌, ◌≤◌}
use lib.ListN.{length}
use native.Mathlib.Omega.{arith}
use Rattle.std.proofs.Common.{Err, rules}
use Rattle.packing.specs.Flat.{rules_of}
use Rattle.packing.proofs.Flat.{length_rules_at}
use Rattle.graph_check.specs.Edges.{edges_of}
use Rattle.checker.proofs.Answered.{path_judged, path_failed}
use Rattle.checker.proofs.check_path.Goals as goal

pub returns-in_err-head : goal.returns-in_err-head
returns-in_err-head c =
    let a = c.args in
    let gone : c.from_residual.result ≡ Err c.in_err-head.field-0.0 = search rules in
    rw gone
    (path_failed a.count a.graph.last (rules_of a.rules.now a.count) (edges_of a.edges.now a.graph.edges) a.reading.now a.walk.now c.in_err-head.field-0.0
    c.in_err-head.ensures.0)

pub returns : goal.returns
returns c =
    let a = c.args in
    let sized = c.in_ok-head.ensures.1 in
    let w = c.weight_of-own in
    let array = w.new.walk in
    let room : 2 * c.in_ok-head.head.edges - 1 ≤ length array = omega (arith, w.auto.walk) in
    path_judged a.count a.graph.last (rules_of a.rules.now a.count) (edges_of a.edges.now a.graph.edges) a.reading.now array w.result c.judge.result
    c.in_ok-head.ensures.0 (sym (length_rules_at a.rules.now 0 a.count)) w.ensures.0 w.ensures.1 room c.judge.ensures
