-- The work table that a service is lent: document 01, "Tables". Stands on packing's definition of a verdict.
use Rattle.std.specs.Prelude.{List, ℕ, ◌+◌, ◌*◌, ◌/◌, length, replicate}
use Rattle.packing.specs.Parse.{Verdict, accepted, refused}

-- the numbers of work table that N readings need, for n slots; "Work is as for P−1 slots"
unfoldable pub table_size : ℕ → ℕ → ℕ → ℕ
table_size S n N = 4 * S * (n * (n + 1) / 2) * N

-- what stands in it afterwards: all zeros, and after a refusal what stood there
abbrev pub work_after : {A : Type 0} → Verdict A → List ℕ → List ℕ
work_after (accepted ls) work = replicate (length work) 0
work_after (refused n) work = work
