-- After i numbers the arrays hold the state that the run has come to, with no more parts than slots.
use mathlib.Core.Path.{◌≡◌, refl, sym, ap, ◌∙◌}
use mathlib.Core.List.{List}
use mathlib.Core.Option.{none}
use Prim.Native.Nat.{ℕ, ◌-◌, ◌*◌, ◌≤◌}
use native.Mathlib.Omega.{arith}
use lib.ListN.{take}
use Rattle.std.proofs.Common.{Some}
use Rattle.packing.specs.declared.Rule as R
use Rattle.derivation.specs.Walk.{State, finished, walk_weight}
use Rattle.packing.specs.Flat.{rules_of}
use Rattle.parse_stack.specs.Stack.{heads_of}
use Rattle.parse_stack.proofs.Heads.{chosen}
use Rattle.slots_check.specs.Slots.{state_of}
use Rattle.slots_check.proofs.Steps.{run_more, run_lost, run_over, at_end}
use Rattle.slots_check.proofs.weight_of.Goals as goal

pub loop-r-init : goal.loop-r-init
unfolding heads_of
loop-r-init c = (refl, omega arith, omega arith, omega arith, omega arith, refl)

pub returns-in_err-at : goal.returns-in_err-at
unfolding walk_weight finished
returns-in_err-at c =
    let a = c.args in
    let l = c.loop-r in
    let rules : List R.Rule = rules_of a.rules.now a.count in
    let walk : List ℕ = take (2 * a.n - 1) a.walk.now in
    let from : State = state_of a.slots.now l.stack (Some l.at) in
    let lost = run_lost rules from walk l.r-index c.loop-r-test.true c.wide.ensures.0 c.in_err-at.ensures.0 in
    rw c.from_residual.ensures (ap finished (sym lost ∙ l.invariant.5))

pub loop-r-preserved : goal.loop-r-preserved
loop-r-preserved c =
    let a = c.args in
    let l = c.loop-r in
    let rules : List R.Rule = rules_of a.rules.now a.count in
    let walk : List ℕ = take (2 * a.n - 1) a.walk.now in
    let from : State = state_of a.slots.now l.stack (Some l.at) in
    let more = run_more rules from walk l.r-index c.loop-r-test.true c.wide.ensures.0 c.in_ok-at.ensures.0 in
    let further = c.in_ok-at.ensures.1 in
    (c.follow.auto.stack ∙ l.invariant.0, omega arith, omega arith, omega arith, omega arith, more ∙ l.invariant.5)

pub returns : goal.returns
unfolding walk_weight
returns c =
    let a = c.args in
    let l = c.loop-r in
    let rules : List R.Rule = rules_of a.rules.now a.count in
    let walk : List ℕ = take (2 * a.n - 1) a.walk.now in
    let from : State = state_of a.slots.now l.stack (Some l.at) in
    let over = run_over rules from walk l.r-index (omega arith) in
    rw c.then_some.ensures
    (chosen _ _ ∙ sym (at_end a.slots.now l.stack l.at l.invariant.1) ∙ ap finished (sym over ∙ l.invariant.5))
