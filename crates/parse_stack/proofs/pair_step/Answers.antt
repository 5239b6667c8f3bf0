-- The two symbols stand on the stack in the place of the head, where there is room.
use native.Mathlib.Omega.{arith}
use borrow.Author.Tests.{lt-ltb}
use Rattle.parse_stack.proofs.Heads.{heads_pushed}
use Rattle.parse_stack.proofs.pair_step.Goals as goal

pub returns : goal.returns
returns c =
    let a = c.args in
    let n = a.at.height in
    let pushed = heads_pushed a.stack.now n a.first.0 a.second.0 (omega arith) (omega arith) in
    (rw (lt-ltb n a.at.left (omega arith), pushed, c.wide.ensures.0), omega arith)
