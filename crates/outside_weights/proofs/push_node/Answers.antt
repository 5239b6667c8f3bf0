-- A node without an outside weight is passed over.
use mathlib.Core.Path.{refl}
use Rattle.outside_entries.specs.Entries.{fourths, plain}
use Rattle.outside_weights.proofs.Steps.{node_none, node_some}
use Rattle.outside_weights.proofs.push_node.Goals as goal

pub returns-then-outer-eq0 : goal.returns-then-outer-eq0
returns-then-outer-eq0 c = (
  node_none (fourths c.args.t.now) (plain c.args.t.now) c.args.rules.now c.args.index.now c.args.d
      c.args.node c.cell_number.ensures.0 c.outside_at-outer.ensures.0 c.if-outer-eq0.true,
  refl,
)

pub returns : goal.returns
returns c = (
  node_some (fourths c.args.t.now) (plain c.args.t.now) c.args.rules.now c.args.index.now c.args.d
      c.args.node c.cell_number.ensures.0 c.outside_at-outer.ensures.0 c.if-outer-eq0.false
      c.push_rules.ensures.0,
  c.push_rules.ensures.1,
)
