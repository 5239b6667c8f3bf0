-- The array's rules are those of the grammar that was accepted, and the check's walk is that of the derivation; a slice of bytes has bytes, so
-- the closing claim holds.
use mathlib.Core.Path.{◌≡◌, sym, ◌∙◌}
use native.Mathlib.Omega.{arith}
use Rattle.std.proofs.Common.{Err, rules}
use Rattle.packing.specs.Grammar.{grammar_block}
use Rattle.packing.specs.Flat.{rules_of}
use Rattle.packing.proofs.Told.{accepted_told, refused_told}
use Rattle.grammar_reader.specs.Answer.{sizes}
use Rattle.checker.specs.Run.{under_rules}
use Rattle.checker.proofs.Runs.{walks_told}
use Rattle.chance.proofs.Shares.{begun}
use Rattle.chance.proofs.Shown.{promised, grammar_refused, walk_refused, walk_shared}
use Rattle.chance.proofs.chance.Goals as goal

pub check_heard-requires : goal.check_heard-requires
check_heard-requires c =
    let bounded = c.in_ok-sizes.ensures.2 in
    omega arith

pub returns-in_err-sizes : goal.returns-in_err-sizes
returns-in_err-sizes c =
    let a = c.args in
    let gone : c.from_residual.result ≡ Err c.in_err-sizes.field-0.0 = search rules in
    let (value, shown) = promised a.grammar.now a.heard.now a.reading.now a.shares.now (λ i. (c.type_inv.reading i).fits) {r = Err c.in_err-sizes.field-0.0}
    (grammar_refused a.grammar.now a.heard.now a.reading.now a.shares.now
    (refused_told (grammar_block a.grammar.now) sizes c.in_err-sizes.ensures.0)) in
    rw gone (record { value = value; shown = shown })

pub returns-in_err-nodes : goal.returns-in_err-nodes
returns-in_err-nodes c =
    let a = c.args in
    let gone : c.from_residual-in_err-nodes.result ≡ Err c.in_err-nodes.field-0.0 = search rules in
    let (g, p, z) = accepted_told (grammar_block a.grammar.now) sizes c.in_ok-sizes.ensures.0 in
    let walks = walks_told a.grammar.now a.heard.now a.reading.now c.read_block.new.rules g c.in_ok-sizes.sizes p z c.read_block.ensures.1 in
    let (value, shown) = promised a.grammar.now a.heard.now a.reading.now a.shares.now (λ i. (c.type_inv.reading i).fits) {r = Err c.in_err-nodes.field-0.0}
    (walk_refused a.grammar.now a.heard.now a.reading.now a.shares.now p z walks c.in_err-nodes.ensures.0) in
    rw gone (record { value = value; shown = shown })

pub returns : goal.returns
returns c =
    let a = c.args in
    let found = c.in_ok-nodes.ensures in
    let (g, p, z) = accepted_told (grammar_block a.grammar.now) sizes c.in_ok-sizes.ensures.0 in
    let walks = walks_told a.grammar.now a.heard.now a.reading.now c.read_block.new.rules g c.in_ok-sizes.sizes p z c.read_block.ensures.1 in
    let (l, e, front, room) = begun (under_rules c.in_ok-sizes.sizes.words (rules_of c.read_block.new.rules c.in_ok-sizes.sizes.rules) a.heard.now
    a.reading.now) c.check_heard.new.walk found.0 found.1 in
    let (value, shown) = promised a.grammar.now a.heard.now a.reading.now a.shares.now (λ i. (c.type_inv.reading i).fits) {r = c.shared.result}
    (walk_shared a.grammar.now a.heard.now a.reading.now a.shares.now p z walks c.check_heard.new.walk c.in_ok-nodes.nodes e front c.shared.ensures) in
    record { value = value; shown = shown }
