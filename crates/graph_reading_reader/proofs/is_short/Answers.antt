-- The whole bytes are too few exactly when their bits are. Assumes nothing.
use lib.ListN.{length}
use Rattle.graph_reading_reader.proofs.Head.{bytes_lack}
use Rattle.graph_reading_reader.proofs.is_short.Goals as goal

pub returns : goal.returns
returns c = bytes_lack (length c.args.block.now) c.args.bits
