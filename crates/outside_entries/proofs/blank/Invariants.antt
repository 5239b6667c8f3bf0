-- What is passed is 0: the fourth numbers are that many zeros and what stood behind them.
use mathlib.Core.Path.{◌≡◌}
use mathlib.Core.List.{◌++◌}
use Prim.Native.Nat.{◌-◌, ◌/◌, ◌≤◌}
use lib.ListN.{length, replicate, drop}
use Rattle.outside_entries.specs.Entries.{fourths, plain}
use Rattle.outside_entries.proofs.blank.Given as goal

abbrev pub invariant-loop-c : goal.invariant-loop-c
invariant-loop-c l = (l.count ≡ length l.initial.t / 4) × (l.c ≤ l.count) × (length l.t ≡ length l.initial.t) × (plain l.t ≡ plain l.initial.t)
    × (fourths l.t ≡ replicate l.c 0 ++ drop l.c (fourths l.initial.t))

abbrev pub decreases-loop-c : goal.decreases-loop-c
decreases-loop-c l = l.count - l.c
