-- Four masks put into others.
use Rattle.chart_masks.proofs.Covering.{marked_puts}
use borrow.Author.Rules.{rules}
use Rattle.chart_masks.proofs.mark.Goals as goal

pub returns : goal.returns
returns c =
    marked_puts _ _ _ _ _ _ c.wide-head.ensures.0 c.requires.2 c.requires.0 c.requires.1 c.only.ensures c.only-2.ensures
    c.narrow_at-firsts.ensures c.narrow_at-seconds.ensures
    c.put.ensures c.put-2.ensures c.put-3.ensures c.put-4.ensures (search rules)
