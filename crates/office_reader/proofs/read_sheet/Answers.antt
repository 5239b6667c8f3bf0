-- `office_reader::read_sheet` meets its contract: the sizes, the rules, then nothing.
use borrow.Author.Rules.{rules}
use Rattle.office_reader.proofs.Whole.{no_sizes, no_rules, surplus, whole}
use Rattle.office_reader.proofs.read_sheet.Goals as goal

pub returns-in_err-sizes : goal.returns-in_err-sizes
returns-in_err-sizes c = no_sizes c.args.sheet.now c.from_residual.result (search rules) c.in_err-sizes.ensures.0

pub returns-in_err-end : goal.returns-in_err-end
returns-in_err-end c =
    no_rules c.args.sheet.now c.in_ok-sizes.ensures.0 c.from_residual-in_err-end.result (search rules) c.in_err-end.ensures

pub returns-then-end-sheet : goal.returns-then-end-sheet
returns-then-end-sheet c = (surplus c.args.sheet.now c.in_ok-sizes.ensures.0 c.in_ok-end.ensures c.if-end-sheet.true, tt)

pub returns : goal.returns
returns c =
    let b = c.in_ok-sizes.ensures.1.0 in
    (whole c.args.sheet.now c.in_ok-sizes.ensures.0 c.in_ok-end.ensures b c.if-end-sheet.false, b)
