-- Five numbers and a mark stored in a row. Assumes nothing.
use mathlib.Core.Path.{◌≡◌}
use Prim.Native.Nat.{◌+◌, ◌-◌, ◌*◌}
use native.Mathlib.Omega.{arith}
use Rattle.grammar_conversion.proofs.Joined.{row_stored}
use Rattle.grammar_conversion.proofs.join_rule.Goals as goal

pub returns : goal.returns
returns c =
    let a = c.args in
    let e : 6 * a.r + 5 - 6 * a.r ≡ 5 = omega arith in
    let f : 5 * a.r + 5 - 5 * a.r ≡ 5 = omega arith in
    rw e (row_stored a.rules.now a.marks.now a.joined.now a.r (omega arith) (omega arith) (rw f at c.copy_from_slice.ensures.after))
