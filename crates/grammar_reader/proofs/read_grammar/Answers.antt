-- `grammar_reader::read_grammar` meets its contract: sizes, then rules, as the definition has them. Assumes nothing.
use mathlib.Core.Path.{sym, ◌∙◌}
use borrow.Author.Rules.{rules}
use Rattle.grammar_reader.proofs.Grammars.{sizes_refused, sheet_unfit, rules_refused, rules_read}
use Rattle.grammar_reader.proofs.read_grammar.Goals as goal

pub returns-in_err-sizes : goal.returns-in_err-sizes
returns-in_err-sizes c = sizes_refused _ _ _ _ _ _ c.from_residual.result (search rules) c.in_err-sizes.ensures.0

pub returns-then-unfit : goal.returns-then-unfit
returns-then-unfit c = sheet_unfit _ _ _ _ _ _ c.in_ok-sizes.ensures.0 (sym c.unfit.ensures ∙ c.if-unfit.true)

pub returns-in_err-at : goal.returns-in_err-at
returns-in_err-at c =
    rules_refused _ _ _ _ _ _ c.in_ok-sizes.ensures.0 (sym c.unfit.ensures ∙ c.if-unfit.false) c.from_residual-in_err-at.result
    (search rules) c.in_err-at.ensures

pub returns : goal.returns
returns c =
    let (bounded, near) = c.in_ok-sizes.ensures.1 in
    rules_read _ _ _ _ _ _ c.in_ok-sizes.ensures.0 (sym c.unfit.ensures ∙ c.if-unfit.false) c.in_ok-at.ensures bounded near
