-- Each arm is the definition's code of that answer, and the place after it.
use mathlib.Core.Path.{refl, ap}
use native.Mathlib.Omega.{arith}
use Rattle.std.specs.Prelude.{Ok}
use Rattle.open_answer.specs.declared.Answer as A
use Rattle.open_answer.specs.Answer.{Reading, NoMore, Full}
use Rattle.open_answer.specs.Model.{told}
use Rattle.open_calls.proofs.OpenCalls.{call_reading, answered, turned_away}
use Rattle.open_calls.proofs.next_call.Goals as goal

pub returns-in-Reading : goal.returns-in-Reading
returns-in-Reading c =
    let a = c.args in
    let e = c.in-Ok.ensures in
    answered a.grammar.now a.utterance.now a.place a.work.now a.out.now e.called e.kept e.computed c.next.auto.work Reading
    (ap (λ (x : A.Answer). told (Ok x)) c.in-Reading.is)

pub returns-in-NoMore : goal.returns-in-NoMore
returns-in-NoMore c =
    let a = c.args in
    let e = c.in-Ok.ensures in
    answered a.grammar.now a.utterance.now a.place a.work.now a.out.now e.called e.kept e.computed c.next.auto.work NoMore
    (ap (λ (x : A.Answer). told (Ok x)) c.in-NoMore.is)

pub returns-in-Full : goal.returns-in-Full
returns-in-Full c =
    let a = c.args in
    let e = c.in-Ok.ensures in
    answered a.grammar.now a.utterance.now a.place a.work.now a.out.now e.called e.kept e.computed c.next.auto.work Full
    (ap (λ (x : A.Answer). told (Ok x)) c.in-Full.is)

pub returns-in-Err : goal.returns-in-Err
returns-in-Err c =
    let a = c.args in
    let e = c.in-Err.ensures in
    turned_away a.grammar.now a.utterance.now a.place a.work.now a.out.now e.called e.kept e.computed c.next.auto.work refl
    (rw c.number.ensures.0 at c.refusal.ensures)
