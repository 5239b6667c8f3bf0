-- A case for each kind.
use mathlib.Core.Path.{sym, ◌∙◌}
use native.Mathlib.Omega.{arith}
use borrow.Author.Tests.{eqb-true, eqb-false}
use Rattle.office_reader.proofs.Places.{symbol_number, word_number}
use Rattle.office_reader.proofs.item_number.Goals as goal

pub returns-then-is_symbol : goal.returns-then-is_symbol
returns-then-is_symbol c =
    let number = c.number_at-number.ensures in
    (rw number.0 (symbol_number _ _ (eqb-true _ _ (sym c.is_symbol.ensures ∙ c.if-is_symbol.true))), omega (arith, number.1))

pub returns : goal.returns
returns c =
    let number = c.number_at-number.ensures in
    (rw number.0 (word_number _ _ (eqb-false _ _ (sym c.is_symbol.ensures ∙ c.if-is_symbol.false))), omega (arith, number.1))
