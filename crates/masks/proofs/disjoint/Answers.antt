-- By the digits of the conjunction.
use borrow.Author.Tests.{eqb-true}
use Rattle.masks.proofs.Digits.{and_disjoint}
use Rattle.masks.proofs.disjoint.Goals as goal

pub returns : goal.returns
returns c = λ e. and_disjoint c.args.x c.args.y (eqb-true _ _ e)
