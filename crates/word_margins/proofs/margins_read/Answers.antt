-- The lengths of the work table and of the output decide between the refusals and the list.
use Prim.Native.Nat.{◌≤◌, ◌<◌}
use native.Mathlib.Omega.{arith}
use lib.ListN.{length}
use Rattle.chart.specs.WorkTable.{table_size}
use Rattle.chart.proofs.WorkTable.{table_is, layout_is}
use Rattle.word_margins.proofs.WaysOut.{edges_short, edges_narrow, edges_listed}
use borrow.Author.Rules.{rules}
use Rattle.word_margins.proofs.margins_read.Goals as goal

pub lay_out-table-requires : goal.lay_out-table-requires
lay_out-table-requires c =
    (c.requires.sizes.symbols, omega (arith, c.requires.places), omega arith, omega arith)

pub table_numbers-requires : goal.table_numbers-requires
table_numbers-requires c = c.lay_out-table.ensures.1

pub returns-then-work-table_numbers : goal.returns-then-work-table_numbers
returns-then-work-table_numbers c =
    let a = c.args in
    let numbers = table_is a.inputs.sizes.symbols a.inputs.heard.last 1 c.lay_out-table.ensures.0
    c.table_numbers.ensures.0 in
    let short : length a.work.now < table_size a.inputs.sizes.symbols a.inputs.heard.last 1 = rw numbers at c.if-work-table_numbers.true in
    edges_short a.rules.now a.edges.now a.inputs a.work.now a.out.now short

pub returns-then-out-inputs : goal.returns-then-out-inputs
returns-then-out-inputs c =
    let a = c.args in
    let numbers = table_is a.inputs.sizes.symbols a.inputs.heard.last 1 c.lay_out-table.ensures.0
    c.table_numbers.ensures.0 in
    let room : table_size a.inputs.sizes.symbols a.inputs.heard.last 1 ≤ length a.work.now = rw numbers at c.if-work-table_numbers.false in
    edges_narrow a.rules.now a.edges.now a.inputs a.work.now a.out.now room c.if-out-inputs.true

pub pass_margins-requires : goal.pass_margins-requires
pass_margins-requires c =
    let (places, ranks) = layout_is c.args.inputs.sizes.symbols c.args.inputs.heard.last 1 c.lay_out-table.ensures.0 in (
      record {
        sized = c.lay_out-table.ensures.1;
        some_place = omega (arith, places, c.requires.some_place);
        some_rank = omega (arith, ranks);
        rules =
            c.requires.sizes.rules;
        edges = omega (arith, c.requires.edges);
      },
      omega (arith, places, c.requires.places),
      c.if-out-inputs.false,
    )

pub returns : goal.returns
returns c =
    let a = c.args in
    let numbers = table_is a.inputs.sizes.symbols a.inputs.heard.last 1 c.lay_out-table.ensures.0
    c.table_numbers.ensures.0 in
    let room : table_size a.inputs.sizes.symbols a.inputs.heard.last 1 ≤ length a.work.now = rw numbers at c.if-work-table_numbers.false in
    edges_listed a.rules.now a.edges.now a.inputs a.work.now a.out.now room c.if-out-inputs.false c.lay_out-table.ensures.0
    c.pass_margins.ensures.value c.pass_margins.ensures.work_after.0 c.pass_margins.ensures.work_after.1
    c.pass_margins.ensures.out_after
