-- A number below 2 ^ 31 is itself as a signed one. Assumes nothing.
use borrow.Author.Rules.{rules}
use mir.Syntax.{w32}
use mir.ValLaws.{to_z_pos}
use Rattle.codes.proofs.count.Goals as goal

pub returns : goal.returns
returns c = to_z_pos w32 c.args.n c.requires
