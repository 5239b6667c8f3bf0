-- Both blocks are read, the table's length tested, and the table made zeros.
use mathlib.Core.Path.{◌≡◌}
use native.Mathlib.Omega.{arith}
use lib.ListN.{length, replicate}
use borrow.Author.Rules.{rules}
use Rattle.std.proofs.lemmas.Result.{err_from_is_err_and}
use Rattle.open_listing.proofs.WaysOut.{inputs_not_opened, not_opened_short, opened_zeros}
use Rattle.open_listing.proofs.open.Goals as goal

pub plan_of-plan-requires : goal.plan_of-plan-requires
plan_of-plan-requires c = c.in_ok-inputs.ensures.bounds

pub returns-in_err-inputs : goal.returns-in_err-inputs
returns-in_err-inputs c =
    let r = err_from_is_err_and c.from_residual.result c.from_residual.ensures.1 in
    rw (r.1, r.2) (inputs_not_opened _ _ _ c.in_err-inputs.ensures)

pub returns-then-work-table_numbers : goal.returns-then-work-table_numbers
returns-then-work-table_numbers c =
    let k = c.in_ok-inputs.ensures in
    not_opened_short k c.plan_of-plan.ensures.0 c.table_numbers.ensures.0 _ c.if-work-table_numbers.true

pub returns : goal.returns
returns c =
    let k = c.in_ok-inputs.ensures in
    opened_zeros k c.plan_of-plan.ensures.0 c.table_numbers.ensures.0 c.args.work.now (omega (arith, c.if-work-table_numbers.false))
    (search rules)
