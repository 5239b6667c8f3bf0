-- `grammar_reader::read_marked_block` meets its contract: the kind is the one that the block says. Assumes nothing.
use Rattle.packing.specs.Grammar.{marked_block}
use Rattle.grammar_reader.proofs.read_marked_block.Goals as goal

pub returns : goal.returns
unfolding marked_block
returns c = rw (← c.is_kind-marked.ensures) c.read_kind.ensures
