-- At an opened place a first call asks whether the table's front is zeros.
use mathlib.Core.Path.{sym}
use borrow.Author.Tests.{ne_eqb}
use lib.Seq.{length-take-le}
use Rattle.open_search.proofs.Sought.{unopened, at_first, at_later}
use Rattle.open_search.proofs.seeks.Goals as goal

pub returns-then-place-ne-OPENED : goal.returns-then-place-ne-OPENED
returns-then-place-ne-OPENED c =
    let a = c.args in
    unopened a.plan a.place a.work.now c.if-place-ne-OPENED.true

pub returns-then-place-ne0 : goal.returns-then-place-ne0
returns-then-place-ne0 c =
    let a = c.args in
    rw (ne_eqb a.place.handed 0 c.if-place-ne0.true) (at_later a.plan a.place a.work.now c.if-place-ne-OPENED.false c.if-place-ne0.true)

pub slice_bounds-zeroed-end : goal.slice_bounds-zeroed-end
slice_bounds-zeroed-end c = sym (length-take-le _ _ c.requires.1)

pub returns-else-place-ne0 : goal.returns-else-place-ne0
returns-else-place-ne0 c =
    let a = c.args in
    at_first a.plan a.place a.work.now c.if-place-ne-OPENED.false c.if-place-ne0.false c.zeroed.ensures
