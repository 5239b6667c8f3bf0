-- The test is the definition's.
use Rattle.cost_ranges.proofs.decide.Goals as goal

pub returns-then-stands : goal.returns-then-stands
returns-then-stands c = rw c.if-stands.true

pub returns : goal.returns
returns c = rw c.if-stands.false
