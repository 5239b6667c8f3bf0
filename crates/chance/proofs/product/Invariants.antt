-- What the factors that are left make of the product so far is the whole product.
use mathlib.Core.Path.{◌≡◌}
use Rattle.chance.specs.Chance.{shares_of, one, product_of}
use Rattle.chance.proofs.Shares.{onward}
use Rattle.chance.proofs.product.Given as goal

abbrev pub invariant-loop-r : goal.invariant-loop-r
invariant-loop-r l = onward l.shares l.walk l.r-index l.p ≡ product_of one (shares_of l.shares l.walk)
