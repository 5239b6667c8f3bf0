-- What the factors that are left make of the product so far is the whole product.
use mathlib.Core.Path.{◌≡◌, refl, sym, ap, ◌∙◌}
use lib.Ieee.{of_bits}
use lib.ListN.{get_or}
use Rattle.chance.specs.Chance.{factor_of}
use Rattle.chance.proofs.Shares.{at_most, all_done, one_node}
use Rattle.chance.proofs.product.Goals as goal

pub loop-r-init : goal.loop-r-init
unfolding of_bits
loop-r-init c = refl

pub factor-p-requires : goal.factor-p-requires
factor-p-requires c = rw c.narrow_at.ensures (at_most c.args.shares.now c.requires _)

pub loop-r-preserved : goal.loop-r-preserved
loop-r-preserved c =
    let a = c.args in
    let share = c.narrow_at.ensures ∙ ap (λ r. get_or a.shares.now r 0) c.wide.ensures.0 in
    one_node a.shares.now a.walk.now c.loop-r.r-index c.loop-r.p c.factor-p.result c.loop-r-test.true (c.factor-p.ensures ∙ ap factor_of share)
    ∙ c.loop-r.invariant

pub returns : goal.returns
returns c = sym (all_done c.args.shares.now c.args.walk.now c.loop-r.r-index c.loop-r.p c.loop-r-test.false) ∙ c.loop-r.invariant
