-- By the last edge in front of e.
use mathlib.Core.Path.{refl, sym, ◌∙◌}
use Rattle.chart_trace.proofs.Leaf.{fits, unfit}
use Rattle.chart_trace.proofs.checked.any_leaf.Goals as goal

pub returns-then-is_some : goal.returns-then-is_some
returns-then-is_some c = (
  sym (c.loop-e.invariant ∙ fits _ _ _ _ _ _ c.loop-e-test.true c.edge_leaf-leaf.ensures.0 (sym c.is_some.ensures ∙ c.if-is_some.true)),
  c.edge_leaf-leaf.ensures.1,
)

pub loop-e-preserved : goal.loop-e-preserved
loop-e-preserved c =
    c.loop-e.invariant ∙ unfit _ _ _ _ _ _ c.loop-e-test.true c.edge_leaf-leaf.ensures.0 (sym c.is_some.ensures ∙ c.if-is_some.false)
