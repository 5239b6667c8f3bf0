-- The head is read, then the nodes.
use native.Mathlib.Omega.{arith}
use Rattle.reading_rows.proofs.Says.{graph_read, graph_refused}
use borrow.Author.Rules.{rules}
use Rattle.reading_rows.proofs.graph_line.Goals as goal

pub returns-in_default : goal.returns-in_default
returns-in_default c =
    let e = rw c.in_default.is at c.read_head.ensures in
    (omega arith, graph_refused c.args.rules.now c.args.s c.args.block.now _ e.0)

pub overflow_mul-nodes : goal.overflow_mul-nodes
overflow_mul-nodes c =
    let path = (rw c.in-Ok.is at c.read_head.ensures).1 in
    omega (arith, path.1, c.requires.0)

pub overflow_sub-nodes : goal.overflow_sub-nodes
overflow_sub-nodes c = let path = (rw c.in-Ok.is at c.read_head.ensures).1 in omega (arith, path.0)

pub read_walk-requires : goal.read_walk-requires
read_walk-requires c =
    let path = (rw c.in-Ok.is at c.read_head.ensures).1 in
    (c.requires.0.some_rule, c.requires.0.rules, omega (arith, path.1, c.requires.0), omega (arith, c.requires.1))

pub returns : goal.returns
returns c =
    let e = rw c.in-Ok.is at c.read_head.ensures in
    (omega (arith, e.1.1, c.requires.0), graph_read c.args.rules.now c.args.s c.args.block.now _ c.in-Ok.head e.0 c.read_walk.ensures)
