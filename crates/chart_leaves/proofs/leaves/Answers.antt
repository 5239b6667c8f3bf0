-- The loop is the iteration over the edges that leave the cell's first place, with no turn where there is none.
use mathlib.Core.Path.{sym, ◌∙◌}
use native.Mathlib.Omega.{arith}
use borrow.Author.Rules.{rules}
use Rattle.packing.proofs.Loop.{iter_end}
use Rattle.chart_candidates.proofs.Loops.{from_none, from_more, from_turn}
use Rattle.chart_candidates.specs.Candidates.{leaves}
use Rattle.chart_leaves.proofs.leaves.Goals as goal

pub returns-then-start-end : goal.returns-then-start-end
unfolding leaves
returns-then-start-end c = simp (← c.class_start-start.ensures.0, ← c.class_end-end.ensures.0, c.if-start-end.true) (sym (from_none _ _ _))

pub loop-y-init : goal.loop-y-init
loop-y-init c = (search rules, search rules, sym (from_none _ _ _))

pub filtered_leaves-so_far-requires : goal.filtered_leaves-so_far-requires
filtered_leaves-so_far-requires c = (search rules, rw c.wide.ensures.0 at c.word_filter-filter.ensures)

pub loop-y-preserved : goal.loop-y-preserved
loop-y-preserved c =
    let h = c.loop-y.invariant.0 in (
      search rules,
      search rules,
      rw (from_more, from_turn, ← c.loop-y.invariant.2, ← c.number_at-e.ensures.0) c.filtered_leaves-so_far.ensures,
    )

pub returns : goal.returns
unfolding leaves
returns c =
    simp (← c.class_start-start.ensures.0, ← c.class_end-end.ensures.0)
    (c.loop-y.invariant.2 ∙ iter_end _ _ _ _ c.loop-y.invariant.1 (omega arith))
