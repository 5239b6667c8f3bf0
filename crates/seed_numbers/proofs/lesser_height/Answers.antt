-- The lesser of both heights, by the test of the lesser key.
use Rattle.std.proofs.Common.{arith}
use Rattle.seed_numbers.proofs.Heights.{least_height}
use Rattle.seed_numbers.proofs.lesser_height.Goals as goal

pub returns : goal.returns
returns c = (
  rw c.min.ensures (least_height _ _ _ _ c.requires c.wrapping_sub_usize-other.ensures.value c.wrapping_sub_usize-other.type_inv),
  omega arith,
)
