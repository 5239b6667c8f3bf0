-- By the test.
use Rattle.std.proofs.Common.{eq-eqb, ne_eqb}
use Rattle.seed_numbers.specs.Seeds.{key_of_number}
use Rattle.seed_numbers.proofs.key_of_number.Goals as goal

pub returns-then-n-ceiling_number : goal.returns-then-n-ceiling_number
unfolding key_of_number
returns-then-n-ceiling_number c = rw (← c.ceiling_number.ensures.0, eq-eqb _ _ c.if-n-ceiling_number.true)

pub returns : goal.returns
unfolding key_of_number
returns c = rw (← c.ceiling_number.ensures.0, ne_eqb _ _ c.if-n-ceiling_number.false)
