-- The masks have the numbers of every head so far.
use Rattle.chart_heads.proofs.Members.{grown_none, grown_more, members_none, members_next, members_end}
use borrow.Author.Rules.{rules}
use Rattle.chart_heads.proofs.mark_heads.Goals as goal

pub loop-head-init : goal.loop-head-init
loop-head-init c = (search rules, search rules, members_none _ _ _ _, grown_none _)

pub loop-head-preserved : goal.loop-head-preserved
loop-head-preserved c = (
  search rules,
  search rules,
  members_next c.loop-head.invariant.2 c.mark_head.ensures,
  grown_more c.loop-head.invariant.3 c.mark_head.ensures.grown,
)

pub shape_of-masks : goal.shape_of-masks
shape_of-masks c = c.loop-head.invariant.1

pub returns : goal.returns
returns c = (members_end c.loop-head.invariant.2 c.loop-head.invariant.0 c.loop-head-test.false, c.loop-head.invariant.3)
