-- What the code refuses of a listing by its numbers. Nobody need believe this page: listing's theorems join it to its page Conditions.
use Rattle.std.specs.Prelude.{Bool, ℕ, ◌*◌, eqb, ltb}
use Rattle.bits.specs.Bits.{pick}
use Rattle.packing.specs.Parse.{Verdict, accepted, refused}
use Rattle.chart.specs.WorkTable.{table_size}
use Rattle.listing_limits.specs.declared.Asked.{Asked}

-- the refusal of the first test that holds: too long for the limits, none asked for, too many, too many for the limits, the table short,
-- the output short; 0 where none holds
abbrev pub first_refusal : (long none many beyond table output : Bool) → ℕ
first_refusal long none many beyond table output =
    pick long 57 (pick none 21 (pick many 21 (pick beyond 58 (pick table 22 (pick output 23 0)))))

-- the refusal of what is asked for and lent, for S symbols, the last place n and readings of L bytes
unfoldable pub shortage : Asked → (S n L work out : ℕ) → ℕ
shortage a S n L work out =
    first_refusal (ltb a.limits.slots n) (ltb a.wanted 1) (ltb 256 a.wanted) (ltb a.limits.readings a.wanted)
    (ltb work (table_size S n a.wanted)) (ltb out (a.wanted * L))

-- the verdict that says so
abbrev pub verdict_on : ℕ → Verdict Unit
verdict_on n = pick (eqb n 0) (accepted tt) (refused n)
