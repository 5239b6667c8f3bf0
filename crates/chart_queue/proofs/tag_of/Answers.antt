-- By the test, as in the definition.
use mathlib.Core.Path.{sym}
use Rattle.chart_queue.proofs.Least.{initial_is, tag_none, tag_rank}
use borrow.Author.Rules.{rules}
use Rattle.chart_queue.proofs.tag_of.Goals as goal

pub returns-then-is_initial : goal.returns-then-is_initial
returns-then-is_initial c = (
  sym (tag_none _ _ _ _ _ (initial_is _ c.back_pointer.ensures.0 c.is_initial.ensures c.if-is_initial.true)),
  search rules,
)

pub returns : goal.returns
returns c = (
  rw (c.code_of.ensures.0, c.back_at.ensures.0)
      (sym (tag_rank _ _ _ _ _ (initial_is _ c.back_pointer.ensures.0 c.is_initial.ensures
      c.if-is_initial.false))),
  search (rules, c.code_of.ensures.1),
)
