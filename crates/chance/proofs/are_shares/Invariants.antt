-- After i turns the shares up to i are shares, so whether all are is told by the rest.
use mathlib.Core.Path.{◌≡◌}
use lib.ListN.{drop}
use Rattle.chance.specs.Chance.{are_shares}
use Rattle.chance.proofs.are_shares.Given as goal

abbrev pub invariant-loop-share : goal.invariant-loop-share
invariant-loop-share l = are_shares (drop l.share-index l.shares) ≡ are_shares l.shares
