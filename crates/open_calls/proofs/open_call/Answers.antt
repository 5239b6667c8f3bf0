-- Each arm is the definition's code of that answer, and the place after it.
use Rattle.open_calls.proofs.OpenCalls.{opened, not_opened}
use Rattle.open_calls.proofs.open_call.Goals as goal

pub returns-in-Ok : goal.returns-in-Ok
returns-in-Ok c =
    let a = c.args in
    let e = c.in-Ok.ensures in
    opened a.grammar.now a.utterance.now a.work.now a.place e.table e.answer

pub returns-in-Err : goal.returns-in-Err
returns-in-Err c =
    let a = c.args in
    let e = c.in-Err.ensures in
    not_opened a.grammar.now a.utterance.now a.work.now a.place e.table e.answer (rw c.number.ensures.0 at c.refusal.ensures)
