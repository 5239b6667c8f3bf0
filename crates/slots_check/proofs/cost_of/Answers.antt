-- What is left of the candidates after k turns costs the word what all of them do.
use mathlib.Core.Path.{◌≡◌, sym, ap, ◌∙◌}
use native.Mathlib.Nat.{sub-zero, add-zero}
use native.Mathlib.Omega.{arith}
use Rattle.packing.specs.declared.Word as W
use Rattle.packing.specs.Meaning.{word}
use Rattle.parse_stack.proofs.Heads.{chosen}
use Rattle.slots_check.proofs.Arrays.{cost_end, cost_here, cost_next, small}
use Rattle.slots_check.proofs.cost_of.Goals as goal

pub loop-k-init : goal.loop-k-init
loop-k-init c = rw (sub-zero, add-zero)

-- the word is there, and what it costs decides
pub returns-then-number_at-wanted : goal.returns-then-number_at-wanted
returns-then-number_at-wanted c =
    let a = c.args in
    let l = c.loop-k in
    let x : W.Word = word c.wide-wanted.result in
    let same : x ≡ a.word = ap word c.wide-wanted.ensures.0 in
    let is = sym c.number_at.ensures.0 ∙ c.if-number_at-wanted.true in
    let here = cost_here x a.slots.now a.start a.count l.k c.loop-k-test.true is in
    let cost = c.number_at-cost.ensures.0 in (
      rw (c.then_some.ensures, ← same) (chosen _ _ ∙ rw cost (sym here ∙ l.invariant)),
      small _ _ c.then_some.ensures c.number_at-cost.ensures.1,
    )

pub loop-k-preserved : goal.loop-k-preserved
loop-k-preserved c =
    let a = c.args in
    let l = c.loop-k in
    let x : W.Word = word c.wide-wanted.result in
    let next = cost_next x a.slots.now a.start a.count l.k c.loop-k-test.true
    (λ e. c.if-number_at-wanted.false (c.number_at.ensures.0 ∙ e)) in
    next ∙ l.invariant

pub returns : goal.returns
returns c =
    let a = c.args in
    let l = c.loop-k in
    let x : W.Word = word c.wide-wanted.result in
    let same : x ≡ a.word = ap word c.wide-wanted.ensures.0 in
    let end = cost_end x a.slots.now a.start a.count l.k (omega arith) in
    (rw (← same) (sym end ∙ l.invariant), tt)
