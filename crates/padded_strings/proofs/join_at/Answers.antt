-- Before place i the byte is the left string's, and from there on the right one's. Assumes nothing.
use borrow.Author.Rules.{rules}
use Rattle.padded_strings.proofs.Joined.{join_left, join_right}
use Rattle.padded_strings.proofs.join_at.Goals as goal

pub returns-then-x-i : goal.returns-then-x-i
returns-then-x-i c =
    let a = c.args in
    join_left a.a.now a.b.now a.i (search rules) (search rules) (search rules) a.x (search rules)

pub returns-else-x-i : goal.returns-else-x-i
returns-else-x-i c =
    let a = c.args in
    join_right a.a.now a.b.now a.i (search rules) (search rules) (search rules) a.x (search rules) (search rules)
