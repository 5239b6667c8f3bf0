-- The loop is the definition's, turn by turn. Assumes nothing.
use mathlib.Core.Path.{◌∙◌}
use Rattle.packing.specs.Loop.{iter}
use Rattle.packing.proofs.Loop.{iter_more, iter_end}
use Rattle.next_phrase.specs.Table.{fill_part}
use borrow.Author.Rules.{rules}
use Rattle.next_phrase.proofs.fill_part.Goals as goal

pub loop-r-init : goal.loop-r-init
unfolding iter
loop-r-init c = search rules

pub loop-r-preserved : goal.loop-r-preserved
loop-r-preserved c =
    (search rules, search rules, rw (iter_more, ← c.loop-r.invariant.2) c.add_rule.ensures)

pub returns : goal.returns
unfolding fill_part
returns c = c.loop-r.invariant.2 ∙ iter_end _ _ _ _ c.loop-r.invariant.0 (search rules)
