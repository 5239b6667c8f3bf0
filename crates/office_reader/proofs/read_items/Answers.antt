-- `office_reader::read_items` meets its contract: what is left ends where all ends.
use mathlib.Core.Path.{◌≡◌, ◌∙◌}
use Prim.Native.Nat.{◌-◌}
use native.Mathlib.Omega.{arith}
use borrow.Author.Rules.{rules}
use Rattle.office_reader.proofs.Passing.{stopped, items_stop, items_go_on, item_end, items_end}
use Rattle.office_reader.proofs.read_items.Goals as goal

pub loop-i-init : goal.loop-i-init
loop-i-init c = let z : c.args.count - 0 ≡ c.args.count = omega arith in record { place = omega arith; left = rw z }

pub loop-i-preserved : goal.loop-i-preserved
loop-i-preserved c =
    let a = c.args in
    let l = c.loop-i in
    let end = item_end a.sheet.now a.v.symbols a.v.words a.count l._i l.at c.loop-i-test.true c.in_ok-at.ensures a.v.ranges.some_symbol a.v.ranges.some_word in
    record {
      place = omega (arith, end);
      left = items_go_on a.sheet.now a.v.symbols a.v.words a.count l._i l.at c.loop-i-test.true c.in_ok-at.ensures ∙ l.invariant.left;
    }

pub returns-in_err-at : goal.returns-in_err-at
returns-in_err-at c =
    let a = c.args in
    let l = c.loop-i in
    let stop = items_stop a.sheet.now a.v.symbols a.v.words a.count l._i l.at c.loop-i-test.true c.in_err-at.ensures in
    stopped c.from_residual.result (search rules) (stop ∙ l.invariant.left)

pub returns : goal.returns
returns c =
    let a = c.args in
    items_end a.sheet.now a.v.symbols a.v.words a.count c.loop-i._i c.loop-i.at (omega arith) ∙ c.loop-i.invariant.left
