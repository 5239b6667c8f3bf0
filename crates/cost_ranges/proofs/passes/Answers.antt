-- Each call's promise is a part of the model.
use borrow.Author.Rules.{rules}
use lib.ListN.{length}
use mathlib.Core.Path.{sym}
use native.Mathlib.Omega.{arith}
use Rattle.std.proofs.lemmas.List.{length-take-le}
use Rattle.one_best.proofs.Trace.{trace_front, trace_fits}
use Rattle.cost_ranges.proofs.PassesAnswer.{none_told, some_told}
use Rattle.cost_ranges.proofs.passes.Goals as goal

pub enumerate-found-requires : goal.enumerate-found-requires
enumerate-found-requires c = let p = c.requires.0 in (p.sized, p.some_place, p.rules, p.edges)

pub clear_table-requires : goal.clear_table-requires
clear_table-requires c = c.requires.0.sized

pub returns-then-found-eq0 : goal.returns-then-found-eq0
returns-then-found-eq0 c =
    let a = c.args in
    let told = none_told a.rules.now a.low.now a.high.now a.pass (length a.work.now) c.enumerate-found.ensures.t_after
    c.enumerate-found.ensures.value.0 c.if-found-eq0.true
    c.clear_table.ensures in
    record { value = told.0; work_after = told.1 }

pub root_weight-least-requires : goal.root_weight-least-requires
root_weight-least-requires c =
    let p = c.requires.0 in
    (p.sized, p.some_place, p.some_rank)

pub trace_root-numbers-requires : goal.trace_root-numbers-requires
trace_root-numbers-requires c =
    let p = c.requires.0 in
    (p.sized, p.some_place, p.some_rank)

pub first_weight-greatest-requires : goal.first_weight-greatest-requires
first_weight-greatest-requires c =
    c.requires.0

pub has_least-stands-requires : goal.has_least-stands-requires
has_least-stands-requires c =
    let a = c.args in
    let p = c.requires in
    let fits = trace_fits c.enumerate-found.new.t a.rules.now a.pass.table p.0.some_place p.1 c.trace_root-numbers.ensures.1
    c.trace_root-numbers.ensures.0 in
    (p.0, fits.1)

pub slice_bounds-trace-end : goal.slice_bounds-trace-end
slice_bounds-trace-end c =
    let a = c.args in
    let p = c.requires in
    let fits = trace_fits c.enumerate-found.new.t a.rules.now a.pass.table p.0.some_place p.1 c.trace_root-numbers.ensures.1
    c.trace_root-numbers.ensures.0 in
    omega (arith, fits.0)

pub slice_bounds-has_least-end : goal.slice_bounds-has_least-end
slice_bounds-has_least-end c =
    let a = c.args in
    let p = c.requires in
    let fits = trace_fits c.enumerate-found.new.t a.rules.now a.pass.table p.0.some_place p.1 c.trace_root-numbers.ensures.1
    c.trace_root-numbers.ensures.0 in
    sym (length-take-le _ _ fits.0)

pub clear_table-requires-2 : goal.clear_table-requires-2
clear_table-requires-2 c =
    c.requires.0.sized

pub returns : goal.returns
returns c =
    let a = c.args in
    let p = c.requires in
    let front = trace_front c.enumerate-found.new.t a.rules.now a.pass.table p.0.some_place p.1 c.trace_root-numbers.ensures.1
    c.trace_root-numbers.ensures.0 in
    let told = some_told a.rules.now a.low.now a.high.now a.pass (length a.work.now)
    c.first_weight-greatest.new.work
    c.enumerate-found.ensures.t_after c.enumerate-found.ensures.value.0 c.if-found-eq0.false c.root_weight-least.ensures
    front c.enumerate-found.auto.t c.first_weight-greatest.ensures.value c.first_weight-greatest.auto.work
    c.has_least-stands.ensures.value c.has_least-stands.ensures.work_after c.clear_table-2.ensures
    c.decide.ensures in
    record { value = told.0; work_after = told.1 }
