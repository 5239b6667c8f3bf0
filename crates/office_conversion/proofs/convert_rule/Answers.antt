-- `office_conversion::convert_rule` meets its contract: one word, or two to six items.
use mathlib.Core.Path.{sym, ◌∙◌}
use Prim.Native.Nat.{◌+◌}
use native.Mathlib.Omega.{arith}
use lib.ListN.{get_or}
use Rattle.office.specs.Flat.{count_at}
use Rattle.office_conversion.proofs.Rules.{count_size, one_passed, more_passed}
use Rattle.office_conversion.proofs.convert_rule.Goals as goal

pub returns-then-n-eq1 : goal.returns-then-n-eq1
returns-then-n-eq1 c =
    let put = rw (c.narrow_at-head.ensures, c.narrow_at-weight.ensures, c.narrow_at-number.ensures)
    at c.put_rule.ensures in (
      omega arith,
      λ a hs rs e v.
          one_passed c.args.sheet.now c.args.base.symbols c.args.base.rules a hs rs c.args.places.now
          c.args.i e c.requires.1 (get_or c.args.sheet.now c.args.p 0)
          (get_or c.args.sheet.now (c.args.p + 1) 0) (c.args.p + 3) (count_at c.args.sheet.now c.args.p)
          (sym c.narrow_at-n.ensures ∙ c.if-n-eq1.true) c.requires.3 v put,
    )

pub add_words-top-requires : goal.add_words-top-requires
add_words-top-requires c =
    let z = count_size c.args.sheet.now c.args.p c.requires.3 in (
      omega arith,
      omega (arith, c.narrow_at-n.ensures, z),
      omega arith,
      rw c.narrow_at-n.ensures c.requires.3.1,
    )

pub overflow_sub-n : goal.overflow_sub-n
overflow_sub-n c =
    omega (arith, c.narrow_at-n.ensures, count_size c.args.sheet.now c.args.p c.requires.3)

pub top_of-rest-requires : goal.top_of-rest-requires
top_of-rest-requires c = (
  omega arith,
  omega (
    arith,
    c.if-n-eq1.false,
    c.narrow_at-n.ensures,
    count_size c.args.sheet.now c.args.p c.requires.3,
  ),
  c.args.base.in_range.1,
  omega (arith, c.add_words-top.ensures.1),
)

pub overflow_sub-n-2 : goal.overflow_sub-n-2
overflow_sub-n-2 c =
    omega (arith, c.narrow_at-n.ensures, count_size c.args.sheet.now c.args.p c.requires.3)

pub put_chain-requires : goal.put_chain-requires
put_chain-requires c = (
  omega (arith, c.requires.0),
  omega (
    arith,
    c.if-n-eq1.false,
    c.narrow_at-n.ensures,
    count_size c.args.sheet.now c.args.p c.requires.3,
  ),
  omega (arith, c.narrow_at-n.ensures, count_size c.args.sheet.now c.args.p c.requires.3),
  omega (arith, c.add_words-top.ensures.1, c.requires.2),
)

pub overflow_sub-result : goal.overflow_sub-result
overflow_sub-result c =
    omega (arith, c.if-n-eq1.false, c.narrow_at-n.ensures, count_size c.args.sheet.now c.args.p c.requires.3)

pub overflow_add-result : goal.overflow_add-result
overflow_add-result c =
    omega (
      arith,
      c.narrow_at-n.ensures,
      count_size c.args.sheet.now c.args.p c.requires.3,
      c.add_words-top.ensures.1,
      c.requires.2,
    )

pub returns : goal.returns
returns c =
    let z = count_size c.args.sheet.now c.args.p c.requires.3 in
    let rest = rw c.narrow_at-n.ensures at c.top_of-rest.ensures in
    let put = rw (c.narrow_at-head.ensures, c.narrow_at-weight.ensures) at c.put_rule-2.ensures in
    let links = rw c.narrow_at-n.ensures at c.put_chain.ensures in (
      omega (arith, c.narrow_at-n.ensures, z, c.add_words-top.ensures.1),
      λ a hs rs e v.
          let w = rw c.narrow_at-n.ensures at (c.add_words-top.ensures.2 a hs rs v) in
          rw c.narrow_at-n.ensures (more_passed c.args.sheet.now c.args.base.symbols c.args.base.rules a hs rs _
          c.args.i e c.requires.1 (get_or c.args.sheet.now c.args.p 0)
          (get_or c.args.sheet.now (c.args.p + 1) 0) (c.args.p + 3) (count_at c.args.sheet.now c.args.p)
          z.0 (λ q. c.if-n-eq1.false (c.narrow_at-n.ensures ∙ q)) c.requires.3 w c.symbol_of-first.ensures rest put
          links),
    )
