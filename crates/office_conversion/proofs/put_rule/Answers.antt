-- `office_conversion::put_rule` meets its contract: five numbers stored in a row.
use mathlib.Core.Path.{◌≡◌}
use Prim.Native.Nat.{◌+◌, ◌*◌}
use native.Mathlib.Omega.{arith}
use Rattle.packing.specs.Store.{store_all}
use Rattle.office_conversion.proofs.put_rule.Goals as goal

pub returns : goal.returns
unfolding store_all
returns c =
    let at = 5 * c.args.r in
    let two : at + 1 + 1 ≡ at + 2 = omega arith in
    let three : at + 2 + 1 ≡ at + 3 = omega arith in
    let four : at + 3 + 1 ≡ at + 4 = omega arith in
    rw (
      two,
      three,
      four,
      c.store-5.ensures,
      c.store-4.ensures,
      c.store-3.ensures,
      c.store-2.ensures,
      c.store.ensures,
    )
