-- What the readers say of both blocks decides between their refusal and the list. Both are what is due, and that is what is meant.
use Rattle.word_margins.proofs.WaysOut.{not_read, meant}
use mathlib.Core.Path.{◌≡◌}
use Rattle.std.specs.Prelude.{Err}
use borrow.Author.Rules.{rules}
use Rattle.word_margins.proofs.word_margins.Goals as goal

pub margins_read-requires : goal.margins_read-requires
margins_read-requires c = (c.in_ok-inputs.ensures).bounds

pub returns-in_err-inputs : goal.returns-in_err-inputs
returns-in_err-inputs c =
    let a = c.args in
    let told = meant a.grammar.now a.utterance.now a.work.now a.out.now
    (not_read a.grammar.now a.utterance.now a.work.now a.out.now {r = c.in_err-inputs.field-0.0} (c.in_err-inputs.ensures)) in
    let gone : c.from_residual.result ≡ Err c.in_err-inputs.field-0.0 = search rules in
    rw gone (record { lists = told.0; meant = told.1 })

pub returns : goal.returns
returns c =
    let a = c.args in
    let told = meant a.grammar.now a.utterance.now a.work.now a.out.now (c.margins_read.ensures _ _ _ _ (c.in_ok-inputs.ensures)) in
    record { lists = told.0; meant = told.1 }
