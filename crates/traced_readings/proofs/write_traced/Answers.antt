-- The reading written is the rank's, of a graph or of slots, for the trace is the rank's.
use mathlib.Core.Path.{◌≡◌}
use native.Mathlib.Omega.{arith}
use borrow.Author.Rules.{rules}
use Rattle.packing.specs.Reading.{reading_length}
use Rattle.traced_readings.proofs.Written.{trace_long, given, graph_written, slots_written}
use Rattle.traced_readings.proofs.write_traced.Goals as goal

pub write_graph_reading-requires : goal.write_graph_reading-requires
write_graph_reading-requires c =
    let a = c.args in
    let form = c.requires.1 in
    let g = given a.t.now a.rules.now a.d a.traced.rank form.some_place c.requires.4 (omega (arith, form.places)) a.form form
    c.if-form.true in
    (g.some_edge, omega (arith, g.few, form.places), form.some_rule, form.rules, g.long, c.requires.3, g.room)

pub returns-then-form : goal.returns-then-form
returns-then-form c =
    let a = c.args in
    let form = c.requires.1 in
    graph_written a.t.now a.rules.now a.d a.traced.rank form.some_place c.requires.4 (omega (arith, form.places)) a.form
    a.out.now c.if-form.true c.root_weight-weight.ensures c.write_graph_reading.ensures

pub write_reading-requires : goal.write_reading-requires
write_reading-requires c =
    let a = c.args in
    let form = c.requires.1 in
    let size : a.form.size ≡ reading_length a.d.last a.form.rules = rw c.if-form.false at form.size in
    let long = trace_long a.t.now a.rules.now a.d a.traced.rank form.some_place c.requires.4 (omega (arith, form.places)) in
    (form.some_place, form.places, form.some_rule, form.rules, long, omega (arith, size, c.requires.3))

pub returns : goal.returns
returns c =
    let a = c.args in
    let form = c.requires.1 in
    slots_written a.t.now a.rules.now a.d a.traced.rank form.some_place c.requires.4 (omega (arith, form.places)) a.form
    a.out.now form c.if-form.false c.root_weight-weight.ensures c.write_reading.ensures
