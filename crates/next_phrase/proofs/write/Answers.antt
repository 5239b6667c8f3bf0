-- Each turn writes one word more. Assumes nothing.
use mathlib.Core.Path.{refl}
use native.Mathlib.Omega.{arith}
use lib.ListN.{length-set}
use lib.Seq.{paste-zero}
use Rattle.next_phrase.proofs.Digits.{digit_more, digits_all}
use borrow.Author.Rules.{rules}
use Rattle.next_phrase.proofs.write.Goals as goal

pub loop-x-init : goal.loop-x-init
loop-x-init c = (omega arith, refl, λ s l b e. (e, paste-zero c.args.out.now 0 s))

pub loop-x-preserved : goal.loop-x-preserved
loop-x-preserved c =
    let l = c.loop-x in
    let a = c.args in (
      search rules,
      simp length-set l.invariant.1,
      λ s z b e.
          let (p, q) = l.invariant.2 s z b e in digit_more a.n l.x s a.out.now z b (search rules) (search rules) (search rules) p q,
    )

pub returns : goal.returns
returns c = λ s z b e.
    let l = c.loop-x in
    let a = c.args in
    digits_all a.n l.x s a.out.now z b (search rules) (search rules) (search rules) (search rules) (l.invariant.2 s z b e).1
