-- By prices, and where these are equal by back pointers.
use Rattle.std.proofs.Common.{rules}
use Rattle.chart_keys.specs.Keys.{key_unit}
use Rattle.chart_keys.proofs.Numbers.{same_price, other_price}
use Rattle.chart_keys.proofs.before.Goals as goal

pub returns-then-a-b : goal.returns-then-a-b
returns-then-a-b c = same_price key_unit _ _ _ _ c.if-a-b.true

pub returns-else-a-b : goal.returns-else-a-b
returns-else-a-b c = other_price key_unit _ _ _ _ (search rules) (search rules) c.if-a-b.false
