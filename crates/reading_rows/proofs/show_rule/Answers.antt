-- A rule's number is put behind the others, or is left out.
use mathlib.Core.Path.{refl, sym, ◌∙◌}
use Prim.Native.Nat.{◌+◌}
use native.Mathlib.Omega.{arith}
use lib.Seq.{drop-set-lt}
use borrow.Author.Rules.{rules}
use Rattle.reading_rows.proofs.Unmarked.{shows, hides}
use Rattle.reading_rows.proofs.show_rule.Goals as goal

pub returns-then-narrow_at-eq-UNMARKED : goal.returns-then-narrow_at-eq-UNMARKED
returns-then-narrow_at-eq-UNMARKED c =
    let a = c.args in
    let e = sym (rw c.wide.ensures.0 at c.narrow_at.ensures) ∙ c.if-narrow_at-eq-UNMARKED.true in (
      omega arith,
      omega arith,
      shows a.marks.now a.shown.now a.rule a.k e c.requires,
      drop-set-lt (a.k + 1) a.shown.now a.k a.rule (omega arith),
    )

pub returns : goal.returns
returns c =
    let a = c.args in (
      omega arith,
      omega arith,
      hides a.marks.now a.shown.now a.rule a.k
          (λ z. c.if-narrow_at-eq-UNMARKED.false (rw c.wide.ensures.0 at c.narrow_at.ensures ∙ z)),
      refl,
    )
