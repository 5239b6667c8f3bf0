-- `office_reader::same_rule` meets its contract: heads, counts, then items.
use mathlib.Core.Path.{sym, ◌∙◌}
use borrow.Author.Tests.{ne_eqb}
use Rattle.office_reader.proofs.Likeness.{heads_differ, counts_differ, heads_same}
use Rattle.office_reader.proofs.same_rule.Goals as goal

pub returns-then-narrow_at : goal.returns-then-narrow_at
returns-then-narrow_at c =
    heads_differ c.args.sheet.now c.args.p c.args.q (λ e. c.if-narrow_at.true (c.narrow_at.ensures ∙ e ∙ sym c.narrow_at-2.ensures))

pub returns-then-n-m : goal.returns-then-n-m
returns-then-n-m c =
    heads_same c.args.sheet.now c.args.p c.args.q
    (sym c.narrow_at.ensures ∙ c.if-narrow_at.false ∙ c.narrow_at-2.ensures) c.number_at-n.ensures.0
    (c.if-n-m.true ∙ c.number_at-m.ensures.0) c.same_items.ensures

pub returns-else-n-m : goal.returns-else-n-m
returns-else-n-m c =
    rw (ne_eqb _ _ c.if-n-m.false) (counts_differ c.args.sheet.now c.args.p c.args.q
    (λ e. c.if-n-m.false (c.number_at-n.ensures.0 ∙ e ∙ sym c.number_at-m.ensures.0)))
