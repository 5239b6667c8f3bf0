-- Each arm is the definition's code of that answer, and what it writes; so the demands are met. Assumes nothing.
use mathlib.Core.Path.{ap}
use Prim.Native.Nat.{ℕ}
use lib.Ieee.{Float}
use Rattle.packing.specs.Parse.{Verdict}
use Rattle.codes.specs.Code.{code_of}
use Rattle.spireyerba.specs.Code.{chance_after}
use Rattle.spireyerba.proofs.Small.{chance_small}
use Rattle.spireyerba.proofs.Codes.{plain_number}
use Rattle.spireyerba.proofs.Demands.{chances}
use Rattle.spireyerba.proofs.spireyerba_chance.Goals as goal

pub returns-in-Ok : goal.returns-in-Ok
returns-in-Ok c =
    let a = c.args in
    let answered = c.in-Ok.ensures in
    let code = ap (code_of {A = Float} (λ x. 0)) answered.value in
    let float = ap (λ (v : Verdict Float). chance_after v a.chance.now) answered.value in
    record {
      answered_as = record { code_is = code; left_is = float };
      chance = chances a.grammar.now a.utterance.now a.reading.now a.shares.now
          (λ i. (c.type_inv.reading i).fits) code float answered.value answered.shown;
    }

pub returns-in-Err : goal.returns-in-Err
returns-in-Err c =
    let a = c.args in
    let answered = c.in-Err.ensures in
    let small = chance_small a.grammar.now a.utterance.now a.reading.now a.shares.now in
    let code = plain_number (λ x. 0) answered.value small (rw c.number.ensures.0 at c.refusal.ensures) in
    let float = ap (λ (v : Verdict Float). chance_after v a.chance.now) answered.value in
    record {
      answered_as = record { code_is = code; left_is = float };
      chance = chances a.grammar.now a.utterance.now a.reading.now a.shares.now
          (λ i. (c.type_inv.reading i).fits) code float answered.value answered.shown;
    }
