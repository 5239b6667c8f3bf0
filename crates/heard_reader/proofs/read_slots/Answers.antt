-- `heard_reader::read_slots` meets its contract: the utterance's reader answers it, and the edges are the utterance's. Assumes nothing.
use Rattle.heard_reader.proofs.Answers.{slots_accepted}
use Rattle.heard_reader.proofs.read_slots.Goals as goal

pub returns : goal.returns
returns c =
    let e = c.in_ok-last.ensures in
    let f = c.edges_of-found.ensures in
    slots_accepted c.args.words c.args.block.now c.read_block.new.slots _ _ c.in_ok-last.field-0 e.0 e.1 f.0 f.2
