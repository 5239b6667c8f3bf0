-- The grammar block is read for its words, and the utterance converted under them; what is written turns back, since a slice of
-- bytes has bytes.
use mathlib.Core.Path.{◌≡◌, ap}
use native.Mathlib.Omega.{arith}
use Rattle.packing.specs.Grammar.{grammar_block}
use Rattle.packing.specs.Conversion.{utterance_to_sheet}
use Rattle.packing.proofs.Theorems.{utterance_block_and_back}
use Rattle.packing.proofs.Told.{accepted_told}
use Rattle.grammar_reader.specs.Answer.{sizes}
use Rattle.grammar_reader.specs.declared.Sizes.{Sizes}
use Rattle.sheet_writer.proofs.Back.{turns_back}
use Rattle.utterance_conversion.proofs.utterance_to_sheet.Goals as goal

pub returns-clause-turns_back : goal.returns-clause-turns_back
unfolding utterance_to_sheet
returns-clause-turns_back c =
    let a = c.args in
    let (g, p, s) = accepted_told (grammar_block a.grammar.now) sizes c.in_ok-z.ensures.0 in
    let words : c.in_ok-z.z.words ≡ g.words = ap (λ (z : Sizes). z.words) s in
    turns_back (utterance_to_sheet a.grammar.now a.block.now)
    (λ l. utterance_block_and_back a.grammar.now a.block.now l (λ i. omega (arith, c.type_inv.block i))) a.out.now
    (rw (p, ← words) c.block_to_sheet.ensures)
