-- `office_conversion::convert` meets its contract: what is left, converted behind what is done, gives all.
use mathlib.Core.Path.{refl, sym, ◌∙◌}
use Prim.Native.Nat.{◌*◌, ◌<◌}
use native.Mathlib.Nat.{add_assoc}
use native.Mathlib.Omega.{arith}
use Rattle.office.specs.Flat.{count_at}
use Rattle.office_conversion.proofs.Rules.{none_passed, next_passable, one_more, all_passed}
use Rattle.office_conversion.proofs.convert.Goals as goal

pub loop-i-init : goal.loop-i-init
loop-i-init c = (
  omega arith,
  omega arith,
  refl,
  none_passed c.args.sheet.now c.args.base.symbols c.args.base.rules c.args.rules.now c.requires,
)

pub slice_bounds-convert_rule-end : goal.slice_bounds-convert_rule-end
slice_bounds-convert_rule-end c = sym c.loop-i.invariant.2

pub convert_rule-k-requires : goal.convert_rule-k-requires
convert_rule-k-requires c =
    let l : c.loop-i.i < c.args.base.rules = omega (arith, c.loop-i-test.true) in (
      omega (arith, c.loop-i.invariant),
      l,
      omega (arith, c.loop-i.invariant),
      next_passable c.args.sheet.now c.args.base.symbols c.args.base.rules c.args.rules.now
          c.loop-i.invariant.3 l,
    )

pub number_at-requires : goal.number_at-requires
number_at-requires c = tt

pub loop-i-preserved : goal.loop-i-preserved
loop-i-preserved c =
    let v = c.loop-i.invariant.3 in
    let l : c.loop-i.i < c.args.base.rules = omega (arith, c.loop-i-test.true) in (
      omega arith,
      omega arith,
      c.convert_rule-k.auto.places ∙ c.loop-i.invariant.2,
      rw (c.number_at.ensures.0, ← add_assoc c.loop-i.p 3 (2 * count_at c.args.sheet.now c.loop-i.p))
          (one_more c.args.sheet.now c.args.base.symbols c.args.base.rules
          c.args.rules.now v l (c.convert_rule-k.ensures.1 c.args.rules.now v.hs v.rs v.size v.holds)),
    )

pub returns : goal.returns
returns c =
    all_passed c.args.sheet.now c.args.base.symbols c.args.base.rules c.args.rules.now c.loop-i.invariant.3
    (omega arith) (omega arith)
