-- The array's rules are those of the grammar that was accepted; a slice of bytes has bytes, so the theorem of what passes holds.
use mathlib.Core.Path.{◌≡◌, sym, ◌∙◌}
use native.Mathlib.Omega.{arith}
use Rattle.std.proofs.Common.{Ok, Err, rules}
use Rattle.packing.specs.Grammar.{grammar_block}
use Rattle.packing.proofs.Told.{accepted_told, refused_told}
use Rattle.grammar_reader.specs.Answer.{sizes}
use Rattle.checker.specs.Check.{check}
use Rattle.checker.proofs.Runs.{passes_walked, refused_walked, walks_told}
use Rattle.checker.proofs.Theorems.{promised}
use Rattle.checker.proofs.check.Goals as goal

pub check_heard-requires : goal.check_heard-requires
check_heard-requires c =
    let bounded = c.in_ok-sizes.ensures.2 in
    omega arith

pub returns-in_err-sizes : goal.returns-in_err-sizes
unfolding check
returns-in_err-sizes c =
    let a = c.args in
    let gone : c.from_residual.result ≡ Err c.in_err-sizes.field-0.0 = search rules in
    let (value, variant) = promised a.grammar.now a.heard.now a.reading.now (λ i. (c.type_inv.reading i).fits) {r = Err c.in_err-sizes.field-0.0}
    (rw (refused_told (grammar_block a.grammar.now) sizes c.in_err-sizes.ensures.0)) in
    rw gone (record { value = value; variant = variant })

pub returns-in_err-check_heard : goal.returns-in_err-check_heard
returns-in_err-check_heard c =
    let a = c.args in
    let gone : c.from_residual-in_err-check_heard.result ≡ Err c.in_err-check_heard.field-0.0 = search rules in
    let (g, p, z) = accepted_told (grammar_block a.grammar.now) sizes c.in_ok-sizes.ensures.0 in
    let walks = walks_told a.grammar.now a.heard.now a.reading.now c.read_block.new.rules g c.in_ok-sizes.sizes p z c.read_block.ensures.1 in
    let (value, variant) = promised a.grammar.now a.heard.now a.reading.now (λ i. (c.type_inv.reading i).fits) {r = Err c.in_err-check_heard.field-0.0}
    (refused_walked (check a.grammar.now a.heard.now a.reading.now) (rw (← walks) at c.in_err-check_heard.ensures.0)) in
    rw gone (record { value = value; variant = variant })

pub returns : goal.returns
returns c =
    let a = c.args in
    let (g, p, z) = accepted_told (grammar_block a.grammar.now) sizes c.in_ok-sizes.ensures.0 in
    let walks = walks_told a.grammar.now a.heard.now a.reading.now c.read_block.new.rules g c.in_ok-sizes.sizes p z c.read_block.ensures.1 in
    let (value, variant) = promised a.grammar.now a.heard.now a.reading.now (λ i. (c.type_inv.reading i).fits) {r = Ok tt}
    (passes_walked (check a.grammar.now a.heard.now a.reading.now) (rw (← walks) at c.in_ok-check_heard.ensures.0)) in
    record { value = value; variant = variant }
