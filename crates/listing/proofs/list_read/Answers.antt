-- What is short decides between the refusal and the chart's table.
use mathlib.Core.Path.{◌≡◌, refl}
use Rattle.std.specs.Prelude.{Err}
use native.Mathlib.Omega.{arith}
use borrow.Author.Rules.{rules}
use lib.ListN.{length}
use Rattle.traced_readings.specs.Model.{FormFor}
use Rattle.listing.specs.Conditions.{library}
use Rattle.listing_limits.specs.Shortage.{shortage}
use Rattle.chart.proofs.WorkTable.{layout_is}
use Rattle.listing.proofs.Sizes.{all_met}
use Rattle.listing.proofs.WaysOut.{read_refused, read_found}
use Rattle.listing.proofs.list_read.Goals as goal

pub returns-in_err-shortage : goal.returns-in_err-shortage
returns-in_err-shortage c =
    let a = c.args in
    let gone : c.from_residual.result ≡ Err c.in_err-shortage.field-0.0 = search rules in
    rw gone (read_refused a.rules.now a.edges.now a.inputs a.asked a.work.now a.out.now c.form_of-form.ensures.0 {r = c.in_err-shortage.field-0.0}
    (c.in_err-shortage.ensures))

pub lay_out-d-requires : goal.lay_out-d-requires
lay_out-d-requires c =
    let met = all_met _ _ _ _ _ _ (c.in_ok-shortage.ensures) in
    (c.requires.sizes.symbols, omega (arith, c.requires.places), met.positive, met.few)

pub fill-requires : goal.fill-requires
fill-requires c =
    let a = c.args in
    let met = all_met _ _ _ _ _ _ (c.in_ok-shortage.ensures) in
    let (places, ranks) = layout_is a.inputs.sizes.symbols a.inputs.heard.last a.asked.wanted c.lay_out-d.ensures.0 in
    let form : FormFor library.slots a.inputs.heard.last c.form_of-form.result = rw c.form_of-form.ensures.0 (record {
      some_place = c.requires.some_place;
      places = c.requires.places;
      some_rule = c.requires.sizes.some_rule;
      rules = c.requires.sizes.rules;
      size = refl;
    }) in (
      c.lay_out-d.ensures.1,
      rw places form,
      omega (arith, c.requires.edges),
      rw ranks met.room,
    )

pub returns : goal.returns
returns c =
    let a = c.args in
    read_found a.rules.now a.edges.now a.inputs a.asked a.work.now a.out.now c.form_of-form.ensures.0
    (c.in_ok-shortage.ensures) c.lay_out-d.ensures.0 c.fill.ensures
