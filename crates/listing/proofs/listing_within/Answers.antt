-- What the readers say of both blocks decides between their refusal and the listing of what these mean. Both are what is due, so within the
-- limits demand 3 is met.
use Rattle.listing.proofs.WaysOut.{not_read}
use Rattle.listing.proofs.Demand3.{promised}
use mathlib.Core.Path.{◌≡◌}
use Rattle.std.specs.Prelude.{Err}
use borrow.Author.Rules.{rules}
use Rattle.listing.proofs.listing_within.Goals as goal

pub list_read-requires : goal.list_read-requires
list_read-requires c = (c.in_ok-inputs.ensures).bounds

pub returns-in_err-inputs : goal.returns-in_err-inputs
returns-in_err-inputs c =
    let a = c.args in
    let told = promised a.limits a.grammar.now a.heard.now a.wanted a.work.now a.out.now _ _ _
    (not_read a.limits a.grammar.now a.heard.now a.wanted a.work.now a.out.now {r = c.in_err-inputs.field-0.0} (c.in_err-inputs.ensures)) in
    let gone : c.from_residual.result ≡ Err c.in_err-inputs.field-0.0 = search rules in
    rw gone (record { lists = told.0; demand3 = told.1 })

pub returns : goal.returns
returns c =
    let a = c.args in
    let told = promised a.limits a.grammar.now a.heard.now a.wanted a.work.now a.out.now _ _ _
    (c.list_read.ensures _ _ _ _ (c.in_ok-inputs.ensures)) in
    record { lists = told.0; demand3 = told.1 }
