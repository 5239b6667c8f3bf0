-- Where the rows have no room, the listing is lent no output and so refuses; else they are written.
use borrow.Author.Rules.{rules}
use Rattle.lines.proofs.RowsMeant.{no_room, room_is}
use Rattle.lines.proofs.lines.Goals as goal

pub returns-then-shown-lt-SHOWN_NUMBERS : goal.returns-then-shown-lt-SHOWN_NUMBERS
returns-then-shown-lt-SHOWN_NUMBERS c =
    let a = c.args in
    let l = c.listing.ensures in
    let told = no_room a.grammar.now a.heard.now a.work.now a.out.now a.shown.now c.listing.result c.if-shown-lt-SHOWN_NUMBERS.true l.lists.answer
    l.lists.work_is in
    record { lists = told.0; told = told.1 }

pub returns : goal.returns
returns c =
    let a = c.args in
    let same = room_is a.out.now a.shown.now c.if-shown-lt-SHOWN_NUMBERS.false in
    record { lists = rw same c.lines_within.ensures.lists; told = rw same c.lines_within.ensures.told }
