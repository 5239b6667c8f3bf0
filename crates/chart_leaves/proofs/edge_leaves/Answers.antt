-- The loop is the iteration over the members of the head's class.
use mathlib.Core.Path.{sym, ◌∙◌}
use native.Mathlib.Omega.{arith}
use borrow.Author.Rules.{rules}
use Rattle.packing.proofs.Loop.{iter_end}
use Rattle.chart_candidates.proofs.Loops.{from_none, from_more, from_turn}
use borrow.Author.Tests.{eq-eqb, ne_eqb}
use Rattle.chart_candidates.specs.Candidates.{edge_leaves}
use Rattle.chart_leaves.proofs.edge_leaves.Goals as goal

pub returns-then-number_at-c : goal.returns-then-number_at-c
unfolding edge_leaves
returns-then-number_at-c c = simp (← c.number_at.ensures.0, ne_eqb _ _ c.if-number_at-c.true)

pub loop-y-init : goal.loop-y-init
loop-y-init c = (search rules, search rules, sym (from_none _ _ _))

pub loop-y-preserved : goal.loop-y-preserved
loop-y-preserved c =
    let h = c.loop-y.invariant.0 in (
      search rules,
      search rules,
      rw (from_more, from_turn, ← c.loop-y.invariant.2, ← c.number_at-in-loop-y.ensures.0) c.word_leaf-so_far.ensures,
    )

pub returns : goal.returns
unfolding edge_leaves
returns c =
    simp (
      ← c.number_at.ensures.0,
      eq-eqb _ _ c.if-number_at-c.false,
      ← c.wide-head.ensures.0,
      ← c.class_start-start.ensures.0,
      ← c.class_end-end.ensures.0,
    ) (c.loop-y.invariant.2 ∙ iter_end _ _ _ _ c.loop-y.invariant.1 (omega arith))
