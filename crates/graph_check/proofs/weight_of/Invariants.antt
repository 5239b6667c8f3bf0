-- After i nodes the numbers and the stack hold the state that the run has come to, with no more parts than edges are left, and the rule
-- numbers of the nodes stand in front.
use mathlib.Core.Path.{◌≡◌}
use Prim.Native.Nat.{◌+◌, ◌-◌, ◌*◌, ◌^◌, ◌≤◌}
use lib.ListN.{length, take}
use Rattle.std.proofs.Common.{Some}
use Rattle.packing.specs.Source.{bytes}
use Rattle.packing.specs.Flat.{rules_of}
use Rattle.derivation.specs.Path.{rules_read, run_from, weight_at, path_weight}
use Rattle.parse_stack.specs.Stack.{standing}
use Rattle.graph_check.specs.Edges.{edges_of}
use Rattle.graph_check.proofs.Kept.{behind}
use Rattle.graph_check.proofs.weight_of.Given as goal

abbrev pub invariant-loop-number : goal.invariant-loop-number
invariant-loop-number l =
    (length l.stack ≡ 24) × (l.at.height ≤ l.at.left) × (l.at.left ≤ 24) × (l.at.place ≤ 2 ^ 33 * l.number-index)
    × (l.at.weight ≤ 2 ^ 33 * l.number-index) × (l.bit ≤ 34 + 15 * l.number-index)
    × (weight_at l.graph.last (run_from (rules_of l.rules l.count) (edges_of l.edges l.graph.edges) (bytes 31 l.block) (2 * l.n - 1 - l.number-index)
    (standing l.stack (Some l.at)) l.bit)
    ≡ path_weight (rules_of l.rules l.count) (edges_of l.edges l.graph.edges) l.graph.last l.n l.block)
    × (behind (take l.number-index l.number-items) (rules_read (rules_of l.rules l.count) (bytes 31 l.block) (2 * l.n - 1 - l.number-index) l.bit)
    ≡ rules_read (rules_of l.rules l.count) (bytes 31 l.block) (2 * l.n - 1) 34)
