-- The share and 1,024 are floats exactly, so their quotient is the factor.
use native.Mathlib.Omega.{arith}
use mathlib.Core.Bool.{false}
use lib.IntN.{pos}
use lib.Ieee.{binary64, of_int, of_bits}
use lib.Ieee.Back.{round_whole}
use Rattle.chance.proofs.Error.{by_1024}
use Rattle.chance.proofs.factor.Goals as goal

pub returns : goal.returns
unfolding of_int of_bits
returns c = by_1024 (of_int binary64 (pos c.args.share)) c.args.share (round_whole binary64 false c.args.share (omega arith))
