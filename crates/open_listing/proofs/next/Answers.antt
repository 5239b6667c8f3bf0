-- What the readers say decides between their refusal and the call.
use Rattle.std.proofs.lemmas.Result.{err_from_is_err_and}
use Rattle.open_listing.proofs.WaysOut.{inputs_not_called, read_called, read_next, refused_next}
use Rattle.open_listing.proofs.next.Goals as goal

pub plan_of-requires : goal.plan_of-requires
plan_of-requires c = c.in_ok-inputs.ensures.bounds

pub returns-in_err-inputs : goal.returns-in_err-inputs
returns-in_err-inputs c =
    let e = c.in_err-inputs.ensures in
    let p = inputs_not_called _ _ _ _ _ e in
    let r = err_from_is_err_and c.from_residual.result c.from_residual.ensures.1 in
    rw (r.1, r.2) (record { called = p.0; kept = p.1; computed = refused_next _ _ _ _ _ e })

pub returns : goal.returns
returns c =
    let k = c.in_ok-inputs.ensures in
    let p = read_called k _ c.plan_of.ensures.0 c.plan_of.ensures.1 _ _ _ c.next_read.ensures in
    let computed = read_next k _ c.plan_of.ensures.0 _ _ _ c.next_read.ensures in
    record { called = p.0; kept = p.1; computed = computed }
