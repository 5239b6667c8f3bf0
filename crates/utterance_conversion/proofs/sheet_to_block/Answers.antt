-- What the reader answers tells what is to be written, and how many bits it takes.
use native.Mathlib.Omega.{arith}
use Rattle.packing.specs.Utterance.{utterance_sheet}
use Rattle.utterance_conversion.proofs.Utterances.{told}
use Rattle.utterance_conversion.proofs.sheet_to_block.Goals as goal

pub write_utterance-requires : goal.write_utterance-requires
write_utterance-requires c =
    let a = c.args in
    let r = c.in_ok-u.ensures in
    let t = told a.words (utterance_sheet a.words a.sheet.now) r.0 c.read_sheet.new.slots r.1 in
    (omega arith, omega arith, omega arith, t.size, omega arith, t.bits)

pub returns : goal.returns
returns c =
    let a = c.args in
    let r = c.in_ok-u.ensures in
    let t = told a.words (utterance_sheet a.words a.sheet.now) r.0 c.read_sheet.new.slots r.1 in
    rw t.block c.write_utterance.ensures
