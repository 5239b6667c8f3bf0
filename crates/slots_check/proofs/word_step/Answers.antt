-- The slot's cost of the word, if it has one, is what the run takes.
use mathlib.Core.Path.{◌≡◌}
use mathlib.Core.Option.{none, some}
use native.Mathlib.Omega.{arith}
use Rattle.derivation.specs.Walk.{cost_of, leaf_step}
use Rattle.slots_check.specs.Slots.{slot_at}
use Rattle.slots_check.proofs.word_step.Goals as goal

pub returns-in_err-cost : goal.returns-in_err-cost
unfolding leaf_step
returns-in_err-cost c =
    let a = c.args in
    let e : none ≡ cost_of a.word (slot_at a.slots.now a.at.place) = rw c.number_at-count.ensures.0 at c.in_err-cost.ensures.0 in
    rw c.from_residual.ensures (λ stack. rw (← e), tt)

pub returns : goal.returns
unfolding leaf_step
returns c =
    let a = c.args in
    let count = c.number_at-count.ensures.0 in
    let e : some c.in_ok-cost.cost ≡ cost_of a.word (slot_at a.slots.now a.at.place) = rw count at c.in_ok-cost.ensures.0 in
    (λ stack. rw (← e, count, c.wide.ensures.0), omega (arith, c.in_ok-cost.ensures.1, c.wide.ensures.1, c.number_at-count.ensures.1))
