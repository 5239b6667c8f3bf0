-- The number asked for tells whether there is a string, and is written.  Assumes nothing.
use mathlib.Core.Path.{refl, sym}
use native.Mathlib.Omega.{arith}
use lib.Seq.{length-take-le}
use Rattle.next_phrase.proofs.Found.{nothing_said, string_said}
use borrow.Author.Rules.{rules}
use Rattle.next_phrase.proofs.answer.Goals as goal

pub slice_bounds-fill_table-end-2 : goal.slice_bounds-fill_table-end-2
slice_bounds-fill_table-end-2 c =
    let a = c.args in sym (length-take-le a.n a.out.now (search rules))

pub fill_table-requires : goal.fill_table-requires
fill_table-requires c =
    let a = c.args in (search rules, omega (arith, length-take-le a.n a.out.now (search rules)))

pub returns-then-found-lt-NO_STRING : goal.returns-then-found-lt-NO_STRING
returns-then-found-lt-NO_STRING c = λ g e v b.
    let a = c.args in
    string_said a.n a.first (search rules) (search rules) a.out.now (search rules) a.sizes a.rules.now c.fill_table.ensures
    c.cell_of-start.ensures.0 refl c.asked_of-found.ensures g e v b c.if-found-lt-NO_STRING.true
    c.write.ensures

pub returns : goal.returns
returns c = λ g e v b.
    let a = c.args in
    nothing_said a.n a.first (search rules) (search rules) a.out.now (search rules) a.sizes a.rules.now c.fill_table.ensures
    c.cell_of-start.ensures.0 refl c.asked_of-found.ensures g e v b c.if-found-lt-NO_STRING.false
