-- What is lent decides where all is within the limits.
use mathlib.Core.Path.{◌≡◌}
use Prim.Native.Nat.{ℕ, ◌*◌, ◌≤◌, ◌<◌}
use native.Mathlib.Omega.{arith}
use borrow.Author.Tests.{lt-ltb, le-ltb}
use lib.Dec.{ltb}
use Rattle.bits.specs.Bits.{pick}
use Rattle.chart.specs.WorkTable.{table_size}
use Rattle.listing_limits.specs.Shortage.{shortage}
use Rattle.listing_limits.specs.declared.Asked.{Asked}
use Rattle.chart.proofs.WorkTable.{table_is}
use Rattle.listing_limits.proofs.Outputs.{output_small}
use Rattle.listing_limits.proofs.shortage.Goals as goal

-- within the limits, what is lent decides
within : (a : Asked) (S n L work out : ℕ) → n ≤ a.limits.slots → 1 ≤ a.wanted → a.wanted ≤ 256 → a.wanted ≤ a.limits.readings
    → shortage a S n L work out
    ≡ pick (ltb work (table_size S n a.wanted)) 22 (pick (ltb out (a.wanted * L)) 23 0)
unfolding shortage
within a S n L work out slots some many beyond =
    rw (le-ltb a.limits.slots n slots, le-ltb a.wanted 1 some, le-ltb 256 a.wanted many, le-ltb a.limits.readings a.wanted beyond)

pub returns-then-work-table_numbers : goal.returns-then-work-table_numbers
returns-then-work-table_numbers c =
    let a = c.args in
    let numbers = table_is a.symbols a.n a.asked.wanted c.lay_out.ensures.0 c.table_numbers.ensures.0 in
    let short : a.work < table_size a.symbols a.n a.asked.wanted = rw numbers at c.if-work-table_numbers.true in
    rw (
      within a.asked a.symbols a.n a.size a.work a.out c.if-asked-n.false c.if-wanted-lt1.false c.if-wanted-gt-MAX_WANTED.false
          c.if-asked-wanted.false,
      lt-ltb _ _ short,
    )

pub overflow_mul-ranks : goal.overflow_mul-ranks
overflow_mul-ranks c = omega (arith, output_small _ c.if-wanted-gt-MAX_WANTED.false c.requires.2)

pub returns-then-out-ranks : goal.returns-then-out-ranks
returns-then-out-ranks c =
    let a = c.args in
    let numbers = table_is a.symbols a.n a.asked.wanted c.lay_out.ensures.0 c.table_numbers.ensures.0 in
    let long : table_size a.symbols a.n a.asked.wanted ≤ a.work = rw numbers at c.if-work-table_numbers.false in
    rw (
      within a.asked a.symbols a.n a.size a.work a.out c.if-asked-n.false c.if-wanted-lt1.false c.if-wanted-gt-MAX_WANTED.false
          c.if-asked-wanted.false,
      le-ltb _ _ long,
      lt-ltb _ _ c.if-out-ranks.true,
    )

pub returns : goal.returns
returns c =
    let a = c.args in
    let numbers = table_is a.symbols a.n a.asked.wanted c.lay_out.ensures.0 c.table_numbers.ensures.0 in
    let long : table_size a.symbols a.n a.asked.wanted ≤ a.work = rw numbers at c.if-work-table_numbers.false in
    rw (
      within a.asked a.symbols a.n a.size a.work a.out c.if-asked-n.false c.if-wanted-lt1.false c.if-wanted-gt-MAX_WANTED.false
          c.if-asked-wanted.false,
      le-ltb _ _ long,
      le-ltb _ _ c.if-out-ranks.false,
    )
