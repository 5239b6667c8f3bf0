-- `utterance_reader::read_sheet` meets its contract: slots and end are the definition's. Assumes nothing.
use mathlib.Core.Path.{◌≡◌}
use borrow.Author.Tests.{eq-eqb}
use lib.ListN.{length}
use Rattle.packing.specs.Parse.{accepted}
use Rattle.packing.specs.Utterance.{utterance_sheet}
use Rattle.packing.proofs.Whole.{utterance_sheet_out}
use Rattle.utterance_reader.proofs.Utterances.{promised_slots}
use Rattle.utterance_reader.proofs.read_sheet.Goals as goal

pub returns-then-end-sheet : goal.returns-then-end-sheet
unfolding utterance_sheet
returns-then-end-sheet c =
    let a = c.args in
    let (u, e, size, h) = c.in_ok-size.ensures in
    let is : utterance_sheet a.words a.sheet.now ≡ accepted u = rw (e, eq-eqb c.in_ok-size.end (length a.sheet.now) c.if-end-sheet.true) in
    promised_slots a.words _ is (utterance_sheet_out a.words a.sheet.now u is).0 size h
