-- The length of the work table decides between the refusal and the passes.
use Prim.Native.Nat.{◌≤◌, ◌<◌}
use native.Mathlib.Omega.{arith}
use borrow.Author.Rules.{rules}
use lib.ListN.{length}
use Rattle.chart.specs.WorkTable.{table_size}
use Rattle.chart.proofs.WorkTable.{table_is, layout_is}
use Rattle.cost_ranges.proofs.WaysOut.{alike_short, alike_passed}
use Rattle.cost_ranges.proofs.ranges_alike.Goals as goal

pub lay_out-table-requires : goal.lay_out-table-requires
lay_out-table-requires c = let p = c.requires in (p.sizes.symbols, omega (arith, p.places), omega arith, omega arith)

pub table_numbers-requires : goal.table_numbers-requires
table_numbers-requires c = c.lay_out-table.ensures.1

pub returns-then-work-table_numbers : goal.returns-then-work-table_numbers
returns-then-work-table_numbers c =
    let a = c.args in
    let numbers = table_is a.inputs.sizes.symbols a.inputs.heard.last 1 c.lay_out-table.ensures.0 c.table_numbers.ensures.0 in
    let short : length a.work.now < table_size a.inputs.sizes.symbols a.inputs.heard.last 1 = rw numbers at c.if-work-table_numbers.true in
    alike_short a.rules.now a.inputs a.low.now a.high.now a.work.now short

pub passes-requires : goal.passes-requires
passes-requires c =
    let a = c.args in
    let p = c.requires in
    let (places, ranks) = layout_is a.inputs.sizes.symbols a.inputs.heard.last 1 c.lay_out-table.ensures.0 in (
      record {
        sized = c.lay_out-table.ensures.1;
        some_place = omega (arith, places, p.some_place);
        some_rank = omega (arith, ranks);
        rules = p.sizes.rules;
        edges = omega (arith, p.edges);
      },
      omega (arith, places, p.places),
    )

pub returns : goal.returns
returns c =
    let a = c.args in
    let numbers = table_is a.inputs.sizes.symbols a.inputs.heard.last 1 c.lay_out-table.ensures.0 c.table_numbers.ensures.0 in
    let room : table_size a.inputs.sizes.symbols a.inputs.heard.last 1 ≤ length a.work.now = rw numbers at c.if-work-table_numbers.false in
    alike_passed a.rules.now a.inputs a.low.now a.high.now a.work.now room c.lay_out-table.ensures.0
    c.passes.ensures.value
    c.passes.ensures.work_after c.passes.auto.work
