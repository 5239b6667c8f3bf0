-- By the tests, as in the definition.
use borrow.Author.Tests.{eq-eqb, ne_eqb}
use Rattle.chart_tags.specs.Tags.{code_of}
use borrow.Author.Rules.{rules}
use Rattle.chart_tags.proofs.code_of.Goals as goal

pub returns-then-back-last : goal.returns-then-back-last
unfolding code_of
returns-then-back-last c = (simp (eq-eqb _ _ c.if-back-last.true), search rules)

pub returns-then-back-last-2 : goal.returns-then-back-last-2
unfolding code_of
returns-then-back-last-2 c = (simp (ne_eqb _ _ c.if-back-last.false, eq-eqb _ _ c.if-back-last-2.true), search rules)

pub returns-then-back-last-3 : goal.returns-then-back-last-3
unfolding code_of
returns-then-back-last-3 c = (simp (ne_eqb _ _ c.if-back-last.false, ne_eqb _ _ c.if-back-last-2.false, eq-eqb _ _ c.if-back-last-3.true), search rules)

pub returns : goal.returns
unfolding code_of
returns c = (simp (ne_eqb _ _ c.if-back-last.false, ne_eqb _ _ c.if-back-last-2.false, ne_eqb _ _ c.if-back-last-3.false), search rules)
