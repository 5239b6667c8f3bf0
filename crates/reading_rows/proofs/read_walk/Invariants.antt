-- Each turn reads a node and stores its rule's number.
use mathlib.Core.Path.{◌≡◌, refl, sym, ◌∙◌}
use Prim.Native.Nat.{◌+◌, ◌-◌, ◌*◌, ◌≤◌}
use native.Mathlib.Omega.{arith}
use borrow.Author.Rules.{rules}
use lib.ListN.{length, length-set}
use Rattle.packing.specs.Source.{bytes}
use Rattle.packing.specs.Flat.{rules_of, rule_at}
use Rattle.packing.proofs.Flat.{by_rule}
use Rattle.reading_rows.proofs.Walks.{Remaining, none_read, node_read, no_node, all_read}
use Rattle.reading_rows.proofs.read_walk.Given as goal

abbrev pub invariant-loop-i : goal.invariant-loop-i
invariant-loop-i l =
    (l.i ≤ l.nodes) × (length l.walk ≡ length l.initial.walk) × (l.at ≤ 34 + 15 * l.i)
    × Remaining (rules_of l.rules l.count) (bytes 31 l.block) l.nodes l.i l.at l.walk

abbrev pub decreases-loop-i : goal.decreases-loop-i
decreases-loop-i l = l.nodes - l.i
