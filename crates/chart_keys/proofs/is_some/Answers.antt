-- The price decides.
use Rattle.std.proofs.Common.{rules}
use Rattle.chart_keys.specs.Keys.{prices, key_unit}
use Rattle.chart_keys.proofs.Numbers.{some_price}
use Rattle.chart_keys.proofs.is_some.Goals as goal

pub returns : goal.returns
returns c = some_price key_unit _ prices c.args.k.back (search rules)
