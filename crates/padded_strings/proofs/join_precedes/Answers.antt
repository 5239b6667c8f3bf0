-- Up to the place reached both are equal, so that the order is that of the rest. Assumes nothing.
use mathlib.Core.Path.{refl, sym, ap, ◌∙◌}
use Prim.Native.Nat.{ℕ}
use native.Mathlib.Omega.{arith}
use borrow.Author.Rules.{rules}
use lib.Dec.{ltb}
use lib.ListN.{get_or}
use Rattle.phrases.specs.Padded.{join}
use Rattle.padded_strings.proofs.Joined.{join_size}
use Rattle.padded_strings.proofs.Compared.{compared_here, compared_on, compared_end}
use Rattle.padded_strings.proofs.join_precedes.Goals as goal

pub loop-x-init : goal.loop-x-init
loop-x-init c = (omega arith, refl)

pub returns-then-p-q : goal.returns-then-p-q
returns-then-p-q c =
    let a = c.args in
    let n = join_size a.a.now a.b.now a.i (search rules) (search rules) (search rules) in
    ap (λ (p : ℕ). ltb p (get_or a.best.now c.loop-x.x 0)) c.join_at-p.ensures
    ∙ compared_here (join a.a.now a.b.now a.i) a.best.now c.loop-x.x c.loop-x.invariant.1
    (omega (arith, n, c.loop-x-test.true)) (search rules) (λ e. c.if-p-q.true (c.join_at-p.ensures ∙ e))

pub loop-x-preserved : goal.loop-x-preserved
loop-x-preserved c =
    let a = c.args in
    let n = join_size a.a.now a.b.now a.i (search rules) (search rules) (search rules) in (
      search rules,
      compared_on (join a.a.now a.b.now a.i) a.best.now c.loop-x.x c.loop-x.invariant.1
          (omega (arith, n, c.loop-x-test.true)) (search rules) (sym c.join_at-p.ensures ∙ c.if-p-q.false),
    )

pub returns : goal.returns
returns c =
    let a = c.args in
    let n = join_size a.a.now a.b.now a.i (search rules) (search rules) (search rules) in
    compared_end (join a.a.now a.b.now a.i) a.best.now c.loop-x.x c.loop-x.invariant.1 (omega (arith, n, c.loop-x-test.false))
    (search rules)
