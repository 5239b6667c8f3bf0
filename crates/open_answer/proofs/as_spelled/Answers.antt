-- The trace is written into zeros, and where it passes the reading of its rank is written.
use mathlib.Core.Path.{refl}
use Rattle.open_answer.proofs.HandOut.{spelled, not_spelled, reads, altered}
use Rattle.open_answer.proofs.as_spelled.Goals as goal

pub returns-in_default : goal.returns-in_default
returns-in_default c =
    let a = c.args in
    let hands = not_spelled a.t.now a.rules.now a.edges.now a.plan a.rank c.in_default.ensures.value in
    (altered a.t.now a.rules.now a.edges.now a.plan a.rank hands, refl)

pub write_traced-requires : goal.write_traced-requires
write_traced-requires c =
    let a = c.args in
    let planned = c.requires.0 in
    let (hands, size) = spelled a.t.now a.rules.now a.edges.now a.plan a.rank c.in-Some.numbers c.in-Some.ensures.value in
    (planned.sized, planned.form, c.requires.1, c.requires.2, record { stands = c.in-Some.ensures.trace_after hands; count = size })

pub returns : goal.returns
returns c =
    let a = c.args in
    let (hands, size) = spelled a.t.now a.rules.now a.edges.now a.plan a.rank c.in-Some.numbers c.in-Some.ensures.value in
    (reads a.t.now a.rules.now a.edges.now a.plan a.rank hands, c.write_traced.ensures)
