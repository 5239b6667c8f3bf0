-- By the digits below the first that is 1, counted from a place on.
use Prim.Native.Nat.{◌/◌, ◌^◌}
use native.Mathlib.Omega.{arith}
use lib.Count.{trailing_le}
use Rattle.masks.proofs.Digits.{lacks_before}
use borrow.Author.Rules.{rules}
use Rattle.masks.proofs.head_from.Goals as goal

pub overflow_cast-next-2 : goal.overflow_cast-next-2
overflow_cast-next-2 c = search (rules, trailing_le 32 (c.args.heads / 2 ^ c.args.from))

pub overflow_add-next : goal.overflow_add-next
overflow_add-next c = search (rules, trailing_le 32 (c.args.heads / 2 ^ c.args.from))

pub returns : goal.returns
returns c = (search rules, search rules, λ b h l. lacks_before 32 c.args.heads c.args.from b h (omega (arith, l)))
