-- The table that the chart makes of zeros is read for the readings, and then the entries found are cleared.
use native.Mathlib.Nat.{mul-le-mul_right}
use native.Mathlib.Omega.{arith}
use borrow.Author.Rules.{rules}
use Rattle.listing.proofs.fill.Goals as goal

pub write_readings-requires : goal.write_readings-requires
write_readings-requires c =
    let few = c.enumerate-m.ensures.value.1 in
    (c.requires.0, c.requires.1, few, omega (arith, c.requires.3, mul-le-mul_right c.args.form.size few))

pub returns : goal.returns
returns c =
    record {
      table = c.enumerate-m.new.t;
      made = c.enumerate-m.ensures.t_after;
      number = c.enumerate-m.ensures.value.0;
      blocks = c.write_readings.ensures;
      size = c.enumerate-m.auto.t;
      emptied = c.clear_table.ensures;
    }
