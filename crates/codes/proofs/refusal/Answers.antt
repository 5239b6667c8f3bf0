-- The negation of a number below 2 ^ 31 fits. Assumes nothing.
use borrow.Author.Rules.{rules}
use Rattle.codes.proofs.Signed.{fits_minus, minus_back}
use Rattle.codes.proofs.refusal.Goals as goal

pub overflow_sub-result : goal.overflow_sub-result
overflow_sub-result c = fits_minus c.args.n c.requires

pub returns : goal.returns
returns c = minus_back c.args.n c.requires
