-- By the digits of the disjunction.
use Rattle.masks.proofs.Digits.{put_or}
use Rattle.masks.proofs.put.Goals as goal

pub returns : goal.returns
returns c = put_or _ _ _ c.requires
