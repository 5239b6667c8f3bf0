-- `office_conversion::read_grammar` meets its contract: the sheet, the conversion, then the limits.
use native.Mathlib.Omega.{arith}
use borrow.Author.Rules.{rules}
use Rattle.office_conversion.proofs.Whole.{not_read, can_pass, many_symbols, many_rules, in_limits_lem}
use Rattle.office_conversion.proofs.read_grammar.Goals as goal
use Rattle.office_conversion.proofs.read_grammar.Goals.{
  then-sizes-gt-MOST_SYMBOLS-via-then-sizes-gt-MOST_SYMBOLS,
  then-sizes-gt-MOST_SYMBOLS-via-else-sizes-gt-MOST_SYMBOLS+then-sizes-gt-MOST_RULES,
}

pub returns-in_err-z : goal.returns-in_err-z
returns-in_err-z c = not_read c.args.sheet.now c.from_residual.result _ (search rules) c.in_err-z.ensures.0

pub convert-k-requires : goal.convert-k-requires
convert-k-requires c = can_pass c.args.sheet.now c.in_ok-z.ensures.0

pub returns-then-sizes-gt-MOST_SYMBOLS : goal.returns-then-sizes-gt-MOST_SYMBOLS
returns-then-sizes-gt-MOST_SYMBOLS c =
    elim c.then-sizes-gt-MOST_SYMBOLS.branch [
      | then-sizes-gt-MOST_SYMBOLS-via-then-sizes-gt-MOST_SYMBOLS w ↦
          many_symbols c.args.sheet.now c.in_ok-z.ensures.0 c.convert-k.ensures w.if-sizes-gt-MOST_SYMBOLS.true
      | then-sizes-gt-MOST_SYMBOLS-via-else-sizes-gt-MOST_SYMBOLS+then-sizes-gt-MOST_RULES w ↦
          many_rules c.args.sheet.now c.in_ok-z.ensures.0 c.convert-k.ensures (omega (arith, w.if-sizes-gt-MOST_SYMBOLS.false)) w.if-sizes-gt-MOST_RULES.true
    ]

pub returns : goal.returns
returns c =
    in_limits_lem c.args.sheet.now c.in_ok-z.ensures.0 c.convert-k.ensures
    (omega (arith, c.if-sizes-gt-MOST_SYMBOLS.false)) (omega (arith, c.if-sizes-gt-MOST_RULES.false)) c.requires
