-- `office_conversion::symbol_of` meets its contract: its test is the definition's.
use mathlib.Core.Path.{sym, ◌∙◌}
use Rattle.office_conversion.proofs.Chains.{item_symbol, item_word}
use Rattle.office_conversion.proofs.symbol_of.Goals as goal

pub returns-then-narrow_at-eq-SYMBOL_ITEM : goal.returns-then-narrow_at-eq-SYMBOL_ITEM
returns-then-narrow_at-eq-SYMBOL_ITEM c =
    c.narrow_at-number.ensures ∙ item_symbol c.args.sheet.now c.args.places.now c.args.p
    (sym c.narrow_at.ensures ∙ c.if-narrow_at-eq-SYMBOL_ITEM.true)

pub returns : goal.returns
returns c =
    c.narrow_at-2.ensures ∙ rw (c.wide.ensures.0, c.narrow_at-number.ensures)
    (item_word c.args.sheet.now c.args.places.now c.args.p
    (λ e. c.if-narrow_at-eq-SYMBOL_ITEM.false (c.narrow_at.ensures ∙ e)))
