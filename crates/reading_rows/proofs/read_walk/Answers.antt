-- Each turn reads a node and stores its rule's number.
use mathlib.Core.Path.{◌≡◌, refl, sym, ◌∙◌}
use Prim.Native.Nat.{◌+◌, ◌-◌, ◌*◌, ◌≤◌}
use native.Mathlib.Omega.{arith}
use borrow.Author.Rules.{rules}
use lib.ListN.{length, length-set}
use Rattle.packing.specs.Source.{bytes}
use Rattle.packing.specs.Flat.{rules_of, rule_at}
use Rattle.packing.proofs.Flat.{by_rule}
use Rattle.reading_rows.proofs.Walks.{Remaining, none_read, node_read, no_node, all_read}
use Rattle.reading_rows.proofs.read_walk.Goals as goal

pub loop-i-init : goal.loop-i-init
loop-i-init c = (
  omega arith,
  refl,
  omega arith,
  none_read (rules_of c.args.rules.now c.args.count) (bytes 31 c.args.block.now)
      c.args.nodes c.args.walk.now,
)

pub read_node-requires : goal.read_node-requires
read_node-requires c =
    (omega (arith, c.loop-i.invariant.0, c.loop-i.invariant.2, c.requires.2), c.requires.0, c.requires.1)

pub shape_of-walk-in_default : goal.shape_of-walk-in_default
shape_of-walk-in_default c = search (rules, c.loop-i.invariant.1)

pub returns-in_default : goal.returns-in_default
returns-in_default c =
    let (n, p) = rw c.in_default.is at c.read_node.ensures in
    no_node (rules_of c.args.rules.now c.args.count) (bytes 31 c.args.block.now) c.args.nodes c.loop-i.i
    c.loop-i.at c.loop-i.walk c.loop-i.invariant.3 (omega (arith, c.loop-i-test.true)) p

pub overflow_cast-walk : goal.overflow_cast-walk
overflow_cast-walk c =
    let (p, near, small, few) = rw c.in-Some.is at c.read_node.ensures in
    search (rules, small)

pub offset_bounds-walk-i : goal.offset_bounds-walk-i
offset_bounds-walk-i c =
    omega (arith, c.loop-i.invariant.0, c.requires.2)

pub bounds-walk-i : goal.bounds-walk-i
bounds-walk-i c =
    omega (arith, c.loop-i.invariant.0, c.loop-i.invariant.1, c.loop-i-test.true, c.requires.2, c.requires.3)

pub overflow_step-i : goal.overflow_step-i
overflow_step-i c = omega (arith, c.loop-i.invariant.0, c.loop-i-test.true)

pub loop-i-smaller : goal.loop-i-smaller
loop-i-smaller c = omega (arith, c.loop-i-test.true)

pub loop-i-preserved : goal.loop-i-preserved
loop-i-preserved c =
    let (p, near, small, few) = rw c.in-Some.is at c.read_node.ensures in (
      omega (arith, c.loop-i-test.true),
      length-set c.loop-i.walk c.loop-i.i c.in-Some.node.rule ∙ c.loop-i.invariant.1,
      omega (arith, c.loop-i.invariant.2, near),
      node_read (rules_of c.args.rules.now c.args.count) (bytes 31 c.args.block.now) c.args.nodes c.loop-i.i
          c.loop-i.at c.loop-i.walk c.loop-i.invariant.3 (omega (arith, c.loop-i-test.true))
          (omega (arith, c.loop-i.invariant.1, c.loop-i-test.true, c.requires.2, c.requires.3)) p
          (sym (by_rule (rule_at c.args.rules.now c.in-Some.node.rule) c.in-Some.node.rule
          c.in-Some.node.edge)),
    )

pub shape_of-walk : goal.shape_of-walk
shape_of-walk c = search (rules, c.loop-i.invariant.1)

pub returns : goal.returns
returns c =
    all_read (rules_of c.args.rules.now c.args.count) (bytes 31 c.args.block.now) c.args.nodes c.loop-i.i
    c.loop-i.at c.loop-i.walk c.loop-i.invariant.3 (omega (arith, c.loop-i-test.false))
    (omega (arith, c.loop-i.invariant.0, c.loop-i.invariant.1, c.requires.2, c.requires.3)) c.loop-i.invariant.0
