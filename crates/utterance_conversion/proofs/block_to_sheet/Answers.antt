-- What the reader answers tells what is to be written.
use Rattle.packing.specs.Utterance.{utterance_block}
use Rattle.utterance_conversion.proofs.Utterances.{told}
use Rattle.utterance_conversion.proofs.block_to_sheet.Goals as goal

pub returns : goal.returns
returns c =
    let a = c.args in
    let r = c.in_ok-u.ensures in
    let t = told a.words (utterance_block a.words a.block.now) r.0 c.read_block.new.slots r.1 in
    rw t.sheet c.write_sheet.ensures
