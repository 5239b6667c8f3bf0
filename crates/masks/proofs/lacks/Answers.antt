-- By the digits of the conjunction.
use native.Mathlib.Omega.{arith}
use borrow.Author.Tests.{eqb-true}
use Rattle.masks.proofs.Digits.{shift_lacks}
use Rattle.masks.proofs.lacks.Goals as goal

pub returns : goal.returns
returns c = λ e. shift_lacks c.args.x c.args.head (omega (arith, c.requires)) (eqb-true _ _ e)
