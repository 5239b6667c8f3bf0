-- The whole bytes that the field needs are there exactly when its bits are.
use Prim.Native.Nat.{◌+◌}
use lib.ListN.{length}
use Rattle.bits.proofs.Num.{bytes_have}
use Rattle.packing.proofs.has_field.Goals as goal

pub returns : goal.returns
returns c = let a = c.args in bytes_have (a.at + a.width) (length a.block.now)
