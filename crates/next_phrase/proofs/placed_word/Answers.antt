-- A shift that loses no bit. Assumes nothing.
use Prim.Native.Nat.{◌*◌}
use lib.Pow.{shl_exact}
use Rattle.phrases.proofs.Numbers.{scale_power}
use borrow.Author.Rules.{rules}
use Rattle.next_phrase.proofs.placed_word.Goals as goal

pub returns : goal.returns
returns c = let a = c.args in rw (shl_exact {a = a.x} 8 (8 * a.left) 64 (search rules) (search rules)) (rw (scale_power a.left))
