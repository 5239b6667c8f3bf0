-- The loop is the definition's, turn by turn. Assumes nothing.
use mathlib.Core.Path.{◌∙◌}
use Rattle.packing.specs.Loop.{iter}
use Rattle.packing.proofs.Loop.{iter_more, iter_end}
use Rattle.phrases.specs.Recursion.{by_rules, least_of, least_at}
use Rattle.specimen.specs.Table.{lesser_split, lesser_rule}
use Rattle.specimen.proofs.Parts.{passed_over}
use borrow.Author.Rules.{rules}
use Rattle.specimen.proofs.least_of_cell.Goals as goal

pub loop-r-init : goal.loop-r-init
unfolding iter
loop-r-init c = search rules

pub loop-r-preserved-then-narrow_at-a : goal.loop-r-preserved-then-narrow_at-a
loop-r-preserved-then-narrow_at-a c = (
  search rules,
  rw (iter_more, ← c.loop-r.invariant.1)
      (passed_over _ _ _ _ c.args.rules.now c.loop-r.r (λ e. c.if-narrow_at-a.true (c.narrow_at.ensures ∙ e))),
)

pub loop-r-preserved : goal.loop-r-preserved
loop-r-preserved c = (search rules, rw (iter_more, ← c.loop-r.invariant.1) c.lesser_rule-next.ensures)

pub returns : goal.returns
unfolding least_at least_of by_rules lesser_rule lesser_split
returns c = c.loop-r.invariant.1 ∙ iter_end _ _ _ _ c.loop-r.invariant.0 (search rules)
