-- The loop is the iteration over the splits.
use Prim.Native.Nat.{◌≤◌, ◌-◌, ◌+◌}
use mathlib.Core.Path.{◌≡◌}
use Rattle.packing.specs.Loop.{over}
use Rattle.chart_keys.specs.Keys.{key_number, lesser}
use Rattle.chart_candidates.proofs.Splits.{seed_key}
use Rattle.chart_seeds.proofs.split_seeds_anywhere.Given as goal

abbrev pub invariant-loop-j : goal.invariant-loop-j
invariant-loop-j l = (l.c.from + 1 ≤ l.j) × (l.j - (l.c.from + 1) ≤ l.end - (l.c.from + 1))
    × (key_number l.so_far ≡ over (λ x k. lesser (key_number l.floor) x (seed_key l.t l.d l.rule l.c k)) (key_number l.initial.so_far) (l.c.from + 1) l.j)

abbrev pub decreases-loop-j : goal.decreases-loop-j
decreases-loop-j l = l.end - l.j
