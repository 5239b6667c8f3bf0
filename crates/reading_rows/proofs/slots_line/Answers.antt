-- What the reader of reading blocks says is the line.
use native.Mathlib.Omega.{arith}
use Rattle.reading_rows.proofs.Says.{slots_read, slots_refused}
use borrow.Author.Rules.{rules}
use Rattle.reading_rows.proofs.slots_line.Goals as goal

pub returns-in_default : goal.returns-in_default
returns-in_default c =
    let e = rw c.in_default.is at c.read_reading.ensures in
    (omega (arith, c.requires.0), slots_refused c.args.s c.args.block.now c.read_reading.new.walk e.1 e.0)

pub returns : goal.returns
returns c =
    let e = rw c.in-Ok.is at c.read_reading.ensures in
    (omega (arith, c.requires.0), slots_read c.args.s c.args.block.now c.read_reading.new.walk e.1 e.0)
