-- `inputs::read_both` meets its contract: the readers' answers, one after the other. Assumes nothing.
use Rattle.std.proofs.lemmas.Result.{err_from_is_err_and}
use Rattle.inputs.proofs.BlocksRead.{grammar_refused, heard_refused, both_read}
use Rattle.inputs.proofs.read_both.Goals as goal

pub returns-in_err-sizes : goal.returns-in_err-sizes
returns-in_err-sizes g c = λ block reads.
    let p = err_from_is_err_and c.from_residual.result c.from_residual.ensures.1 in
    rw (p.1, p.2) (grammar_refused block c.args.grammar.now c.args.heard.now c.in_err-sizes.ensures.0)

pub returns-in_err-heard : goal.returns-in_err-heard
returns-in_err-heard g c = λ block reads.
    let p = err_from_is_err_and c.from_residual-in_err-heard.result c.from_residual-in_err-heard.ensures.1 in
    let told = reads _ _ _ _ _ c.in_err-heard.ensures in
    rw (p.1, p.2) (heard_refused block c.args.grammar.now c.args.heard.now c.in_ok-sizes.ensures.0 told.answer)

pub returns : goal.returns
returns g c = λ block reads.
    let (told, stands, bounds, laid) = c.in_ok-sizes.ensures in
    both_read block c.args.grammar.now c.args.heard.now told _ _ _ _ laid bounds (reads _ _ _ _ _ c.in_ok-heard.ensures)
