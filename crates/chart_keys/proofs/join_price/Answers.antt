-- The prices of both parts are below 2 ^ 43, and that of the rule below 2 ^ 53.
use Rattle.chart_keys.specs.Keys.{join_price}
use Rattle.std.proofs.Common.{rules}
use Rattle.chart_keys.proofs.join_price.Goals as goal

pub returns : goal.returns
unfolding join_price
returns c = search rules
