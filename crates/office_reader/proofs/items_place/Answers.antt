-- `office_reader::items_place` meets its contract: what is left of the items leads to the place of all. Assumes nothing.
use mathlib.Core.Path.{sym, ◌∙◌}
use native.Mathlib.Omega.{arith}
use Rattle.office_reader.proofs.Places.{placed_start, placed_on, placed_end}
use Rattle.office_reader.proofs.items_place.Goals as goal

pub loop-i-init : goal.loop-i-init
loop-i-init c = record { small = omega arith; left = placed_start _ _ _ _ }

pub overflow_add-place : goal.overflow_add-place
overflow_add-place c = omega (arith, c.item_number.ensures.1)

pub loop-i-preserved : goal.loop-i-preserved
loop-i-preserved c =
    let a = c.args in
    let l = c.loop-i in
    record {
      small = omega arith;
      left = rw c.item_number.ensures.0 (sym (placed_on a.sheet.now a.p a.n l.i l.place c.loop-i-test.true) ∙ l.invariant.left);
    }

pub returns : goal.returns
returns c =
    let a = c.args in
    let l = c.loop-i in
    (sym (placed_end a.sheet.now a.p a.n l.i l.place (omega arith)) ∙ l.invariant.left, omega (arith, l.invariant.small))
