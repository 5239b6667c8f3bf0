-- By the digits of a shifted 1.
use native.Mathlib.Omega.{arith}
use Rattle.masks.proofs.Digits.{shift_only}
use Rattle.masks.proofs.only.Goals as goal

pub returns : goal.returns
returns c = shift_only c.args.place (omega (arith, c.requires))
