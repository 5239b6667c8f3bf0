-- `office_conversion::add_words` meets its contract: the words that are left, added, give what all give.
use mathlib.Core.Path.{◌≡◌, refl, sym, ◌∙◌}
use mathlib.Core.List.{[], ◌∷◌}
use Prim.Native.Nat.{◌+◌, ◌*◌}
use native.Mathlib.Omega.{arith}
use Rattle.office.specs.Flat.{item_at, items_at}
use Rattle.office.specs.Conversion.{with_words}
use Rattle.office_conversion.proofs.Words.{Rest, rest_start, rest_more, below_first, words_more, words_end}
use Rattle.office_conversion.proofs.add_words.Goals as goal

pub loop-j-init : goal.loop-j-init
loop-j-init c =
    let z = rest_start c.args.sheet.now c.args.p c.args.n in
    (omega arith, omega arith, rw z c.requires.3, λ a hs rs v. (hs, v, rw z))

pub wide-requires : goal.wide-requires
wide-requires c = tt

pub add_item-k-requires : goal.add_item-k-requires
add_item-k-requires c =
    let l = rw (rest_more c.args.sheet.now c.args.p c.args.n c.loop-j.j c.loop-j-test.true)
    at c.loop-j.invariant.2 in
    let x = (below_first (item_at c.args.sheet.now (c.args.p + 2 * c.loop-j.j))
    (Rest c.args.sheet.now c.args.p c.args.n (c.loop-j.j + 1)) l).0 in
    (omega arith, omega arith, rw c.wide.ensures.0 x)

pub loop-j-preserved : goal.loop-j-preserved
loop-j-preserved c =
    let l = rw (rest_more c.args.sheet.now c.args.p c.args.n c.loop-j.j c.loop-j-test.true)
    at c.loop-j.invariant.2 in
    let x = (below_first (item_at c.args.sheet.now (c.args.p + 2 * c.loop-j.j))
    (Rest c.args.sheet.now c.args.p c.args.n (c.loop-j.j + 1)) l).1 in
    let told = rw c.wide.ensures.0 at c.add_item-k.ensures.2 in (
      omega arith,
      omega arith,
      x,
      λ a hs rs v.
          let (gs, w, e) = c.loop-j.invariant.3 a hs rs v in (
            with_words (item_at c.args.sheet.now (c.args.p + 2 * c.loop-j.j) ∷ []) gs,
            told a gs rs w,
            words_more c.args.sheet.now c.args.p c.args.n c.loop-j.j c.loop-j-test.true gs ∙ e,
          ),
    )

pub returns : goal.returns
returns c = (
  omega arith,
  omega arith,
  λ a hs rs v.
      let (gs, w, e) = c.loop-j.invariant.3 a hs rs v in
      let q : gs ≡ with_words (items_at c.args.sheet.now c.args.p c.args.n) hs =
      sym (words_end c.args.sheet.now c.args.p c.args.n c.loop-j.j (omega arith) gs) ∙ e in
      rw (← q) w,
)
