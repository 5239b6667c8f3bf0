-- Each way out is one of the run's: no rule fits, a pair rule does, a word rule does.
use mathlib.Core.Path.{sym, ap, ◌∙◌}
use mathlib.Core.Option.{some}
use native.Mathlib.Omega.{arith}
use Rattle.packing.specs.Flat.{rules_of, slots_of}
use Rattle.parse_stack.specs.Stack.{heads_of}
use Rattle.parse_stack.proofs.Fits.{pair_there, word_there}
use Rattle.slots_check.proofs.Steps.{nothing_fits, pair_fits, word_fits}
use Rattle.slots_check.proofs.follow.Goals as goal

pub returns-in_err-rule : goal.returns-in_err-rule
returns-in_err-rule c =
    let a = c.args in
    let rules = rules_of a.rules.now a.count in
    let heads = heads_of a.stack.now a.at.height in
    rw c.from_residual.ensures (nothing_fits rules (slots_of a.slots.now a.at.left a.at.place) heads a.at.weight a.r (sym c.in_err-rule.ensures), tt)

pub pair_step-requires : goal.pair_step-requires
pair_step-requires c =
    let a = c.args in
    let fit = sym c.in_ok-rule.ensures ∙ ap some c.in-Pair.is in
    omega (arith, (pair_there (rules_of a.rules.now a.count) a.stack.now a.at.height a.r fit).0)

pub word_step-requires : goal.word_step-requires
word_step-requires c =
    let a = c.args in
    let fit = sym c.in_ok-rule.ensures ∙ ap some c.in-Word.is in
    omega (arith, (word_there (rules_of a.rules.now a.count) a.stack.now a.at.height a.r fit).0)

pub returns-in-Pair : goal.returns-in-Pair
returns-in-Pair c =
    let a = c.args in
    let fit = sym c.in_ok-rule.ensures ∙ ap some c.in-Pair.is in (
      pair_fits (rules_of a.rules.now a.count) a.slots.now a.stack.now a.at a.r c.pair_step.new.stack
          c.pair_step.result fit c.pair_step.ensures.0,
      c.pair_step.ensures.1,
    )

pub returns-in-Word : goal.returns-in-Word
returns-in-Word c =
    let a = c.args in
    let fit = sym c.in_ok-rule.ensures ∙ ap some c.in-Word.is in
    let goes = word_fits (rules_of a.rules.now a.count) a.slots.now a.stack.now a.at a.r (omega arith) fit in
    (c.word_step.ensures.0 a.stack.now ∙ sym goes, c.word_step.ensures.1)
