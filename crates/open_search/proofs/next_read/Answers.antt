-- What is short, what was handed out and whether the place was opened decide between the refusals, the search and the table as it stands.
use mathlib.Core.Path.{sym, ◌∙◌}
use native.Mathlib.Omega.{arith}
use Rattle.open_search.proofs.Searched.{as_it_stands, front_fits}
use Rattle.open_search.proofs.Sought.{first_clear}
use Rattle.open_search.proofs.Calls.{short_table, short_output, full, unsought_call, first_call, later_call}
use borrow.Author.Rules.{rules}
use Rattle.open_search.proofs.next_read.Goals as goal

pub returns-then-work-table_numbers : goal.returns-then-work-table_numbers
returns-then-work-table_numbers c =
    let a = c.args in
    short_table a.rules.now a.edges.now a.plan a.place a.work.now a.out.now c.table_numbers.ensures.0 c.if-work-table_numbers.true

pub returns-then-out-plan : goal.returns-then-out-plan
returns-then-out-plan c =
    let a = c.args in
    short_output a.rules.now a.edges.now a.plan a.place a.work.now a.out.now c.table_numbers.ensures.0
    (omega (arith, c.if-work-table_numbers.false)) c.if-out-plan.true

pub returns-then-handed-ge-MOST_RANKS : goal.returns-then-handed-ge-MOST_RANKS
returns-then-handed-ge-MOST_RANKS c =
    let a = c.args in
    full a.rules.now a.edges.now a.plan a.place a.work.now a.out.now c.table_numbers.ensures.0
    (omega (arith, c.if-work-table_numbers.false)) (omega (arith, c.if-out-plan.false)) c.if-handed-ge-MOST_RANKS.true

pub seeks-requires : goal.seeks-requires
seeks-requires c = (c.requires, front_fits c.args.plan c.requires c.table_numbers.ensures.0 (omega (arith, c.if-work-table_numbers.false)))

pub first-requires : goal.first-requires
first-requires c =
    let a = c.args in (
      c.requires,
      omega (arith, c.if-out-plan.false),
      front_fits a.plan c.requires c.table_numbers.ensures.0 (omega (arith, c.if-work-table_numbers.false)),
      first_clear a.plan a.place a.work.now (sym c.seeks.ensures ∙ c.if-not-seeks.false) c.if-handed-eq0.true,
    )

pub returns-then-handed-eq0 : goal.returns-then-handed-eq0
returns-then-handed-eq0 c =
    let a = c.args in
    first_call a.rules.now a.edges.now a.plan a.place a.work.now a.out.now c.table_numbers.ensures.0
    (omega (arith, c.if-work-table_numbers.false)) (omega (arith, c.if-out-plan.false)) (omega (arith, c.if-handed-ge-MOST_RANKS.false))
    (sym c.seeks.ensures ∙ c.if-not-seeks.false) c.if-handed-eq0.true c.first.ensures

pub returns-then-not-seeks : goal.returns-then-not-seeks
returns-then-not-seeks c =
    let a = c.args in
    let told = c.as_spelled.ensures in
    unsought_call a.rules.now a.edges.now a.plan a.place a.work.now a.out.now c.table_numbers.ensures.0
    (omega (arith, c.if-work-table_numbers.false)) (omega (arith, c.if-out-plan.false)) (omega (arith, c.if-handed-ge-MOST_RANKS.false))
    (sym c.seeks.ensures ∙ c.if-not-seeks.true)
    (as_it_stands a.rules.now a.edges.now a.plan a.work.now a.out.now a.place.handed told.0 told.1)

pub returns : goal.returns
returns c =
    let a = c.args in
    later_call a.rules.now a.edges.now a.plan a.place a.work.now a.out.now c.table_numbers.ensures.0
    (omega (arith, c.if-work-table_numbers.false)) (omega (arith, c.if-out-plan.false)) (omega (arith, c.if-handed-ge-MOST_RANKS.false))
    (sym c.seeks.ensures ∙ c.if-not-seeks.false) (omega (arith, c.if-handed-eq0.false)) c.later.ensures
