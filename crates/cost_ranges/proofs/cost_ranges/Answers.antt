-- What the readers say of the grammar and of both blocks decides between their refusals and the answer. All are what is due, and that is what
-- is meant.
use mathlib.Core.Path.{◌≡◌, sym, ◌∙◌}
use Rattle.std.specs.Prelude.{Err}
use borrow.Author.Rules.{rules}
use Rattle.packing.specs.Heard.{as_slots}
use Rattle.packing.specs.declared.refusal.Refusal.TheVariants.{CostRanges}
use Rattle.packing.proofs.Told.{accepted_told, refused_told}
use Rattle.heard_reader.specs.Answer.{heard_size}
use Rattle.cost_ranges.proofs.WaysOut.{not_read, high_refused, differ, alike, meant}
use Rattle.cost_ranges.proofs.cost_ranges.Goals as goal

pub returns-in_err-inputs : goal.returns-in_err-inputs
returns-in_err-inputs c =
    let a = c.args in
    let r = c.in_err-inputs.field-0.0 in
    let told = meant a.grammar.now a.low.now a.high.now a.work.now (Err r)
    (not_read a.grammar.now a.low.now a.high.now a.work.now r (c.in_err-inputs.ensures)) in
    let gone : c.from_residual.result ≡ Err r = search rules in
    rw gone (record { promised = told.0; meant = told.1 })

pub read_slots-requires : goal.read_slots-requires
read_slots-requires c =
    let b = (c.in_ok-inputs.ensures).bounds.sizes in
    (b.some_word, b.words, search rules)

pub returns-in_err-other : goal.returns-in_err-other
returns-in_err-other c =
    let a = c.args in
    let k = c.in_ok-inputs.ensures in
    let refusal = refused_told (as_slots c.in_ok-inputs.inputs.sizes.words a.high.now) heard_size (c.in_err-other.ensures).answer in
    let r = c.in_err-other.field-0.0 in
    let told = meant a.grammar.now a.low.now a.high.now a.work.now (Err r)
    (high_refused a.grammar.now a.low.now a.high.now a.work.now k r refusal) in
    let gone : c.from_residual-in_err-other.result ≡ Err r = search rules in
    rw gone (record { promised = told.0; meant = told.1 })

pub both_rise-requires : goal.both_rise-requires
both_rise-requires c = (c.in_ok-inputs.ensures).bounds.edges

pub ranges_alike-requires : goal.ranges_alike-requires
ranges_alike-requires c = (c.in_ok-inputs.ensures).bounds

pub returns-then-both_rise : goal.returns-then-both_rise
returns-then-both_rise c =
    let a = c.args in
    let k = c.in_ok-inputs.ensures in
    let r = c.in_ok-other.ensures in
    let (h, v, y) = accepted_told (as_slots c.in_ok-inputs.inputs.sizes.words a.high.now) heard_size r.answer in
    let due = alike a.grammar.now a.low.now a.high.now a.work.now k h v y c.read_slots.new.edges (rw v at r.edges)
    (sym c.both_rise.ensures ∙ c.if-both_rise.true) c.ranges_alike.result c.ranges_alike.ensures in
    let told = meant a.grammar.now a.low.now a.high.now a.work.now c.ranges_alike.result due in
    record { promised = told.0; meant = told.1 }

pub returns : goal.returns
returns c =
    let a = c.args in
    let k = c.in_ok-inputs.ensures in
    let r = c.in_ok-other.ensures in
    let (h, v, y) = accepted_told (as_slots c.in_ok-inputs.inputs.sizes.words a.high.now) heard_size r.answer in
    let due = differ a.grammar.now a.low.now a.high.now a.work.now k h v y c.read_slots.new.edges (rw v at r.edges)
    (sym c.both_rise.ensures ∙ c.if-both_rise.false) in
    let told = meant a.grammar.now a.low.now a.high.now a.work.now (Err CostRanges) due in
    record { promised = told.0; meant = told.1 }
