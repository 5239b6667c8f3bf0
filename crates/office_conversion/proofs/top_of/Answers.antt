-- `office_conversion::top_of` meets its contract: one symbol is itself, and several are a helper.
use Rattle.office_conversion.proofs.Chains.{top_one, top_more}
use Rattle.office_conversion.proofs.top_of.Goals as goal

pub returns-then-n-eq1 : goal.returns-then-n-eq1
returns-then-n-eq1 c =
    top_one c.args.sheet.now c.args.places.now c.args.p c.args.symbols c.args.k c.args.n
    c.if-n-eq1.true c.symbol_of.ensures

pub returns : goal.returns
returns c =
    top_more c.args.sheet.now c.args.places.now c.args.p c.args.symbols c.args.k c.args.n
    c.requires.1 c.if-n-eq1.false
