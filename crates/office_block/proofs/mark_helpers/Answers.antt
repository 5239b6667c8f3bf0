-- The ones that are filled in are those that are stored. Assumes nothing.
use borrow.Author.Rules.{rules}
use Rattle.office_block.proofs.Marks.{ones_put}
use Rattle.office_block.proofs.mark_helpers.Goals as goal

pub returns : goal.returns
returns c = ones_put c.args.marks.now c.args.first c.args.n c.requires.0 c.requires.2 (search rules)
