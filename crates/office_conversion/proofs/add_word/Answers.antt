-- `office_conversion::add_word` meets its contract: a word whose entry is 0 is new.
use mathlib.Core.Path.{sym, ◌∙◌}
use native.Mathlib.Omega.{arith}
use Rattle.office_conversion.proofs.Words.{word_kept, word_added}
use Rattle.office_conversion.proofs.add_word.Goals as goal

pub returns-then-narrow_at-eq0 : goal.returns-then-narrow_at-eq0
returns-then-narrow_at-eq0 c =
    let put = rw c.wide-then-narrow_at-eq0.ensures.0 at c.put_rule.ensures in
    let entry = rw c.wide-then-narrow_at-eq0-2.ensures.0 at c.store.ensures in
    let zero = rw c.wide.ensures.0 at (sym c.narrow_at.ensures ∙ c.if-narrow_at-eq0.true) in
    (omega arith, omega arith, λ a hs rs v. rw entry (word_added c.requires.1 v c.args.base.in_range.0 zero put))

pub returns : goal.returns
returns c =
    let same = rw c.wide.ensures.0 at c.narrow_at.ensures in
    (omega arith, omega arith, λ a hs rs v. word_kept c.requires.1 v (λ e. c.if-narrow_at-eq0.false (same ∙ e)))
