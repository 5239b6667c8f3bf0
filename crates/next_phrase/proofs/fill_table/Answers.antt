-- The loop is the definition's, turn by turn. Assumes nothing.
use mathlib.Core.Path.{◌∙◌}
use Rattle.packing.specs.Loop.{iter}
use Rattle.packing.proofs.Loop.{iter_more, iter_end}
use Rattle.next_phrase.specs.Table.{fill_table}
use Rattle.next_phrase.proofs.Parts.{part_left_out, part_filled}
use borrow.Author.Rules.{rules}
use Rattle.next_phrase.proofs.fill_table.Goals as goal

pub loop-p-init : goal.loop-p-init
unfolding iter
loop-p-init c = search rules

pub loop-p-preserved-then-string-from : goal.loop-p-preserved-then-string-from
loop-p-preserved-then-string-from c =
    (search rules, search rules, rw (iter_more, ← c.loop-p.invariant.2) (part_left_out _ _ _ _ c.loop-p.p c.if-string-from.true))

pub loop-p-preserved : goal.loop-p-preserved
loop-p-preserved c = (
  search rules,
  search rules,
  rw (iter_more, ← c.loop-p.invariant.2)
      (c.fill_part.ensures ∙ part_filled _ _ _ _ c.loop-p.p c.if-string-from.false),
)

pub returns : goal.returns
unfolding fill_table
returns c = c.loop-p.invariant.2 ∙ iter_end _ _ _ _ c.loop-p.invariant.0 (search rules)
