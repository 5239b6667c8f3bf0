-- The loop is the iteration over the splits by seeds as numbers, with the parts' first entries as Splits has them. The loop itself knows
-- the floor by its number only, so what it keeps is said of every floor that has it.
use Prim.Native.Nat.{◌≤◌, ◌-◌, ◌+◌, ◌*◌}
use mathlib.Core.Path.{◌≡◌}
use Rattle.chart_keys.specs.declared.Key.{Key}
use Rattle.chart_keys.specs.Keys.{key_number}
use Rattle.seed_numbers.specs.Seeds.{InNumbers, floor_number, ceiling_number, key_of_number}
use Rattle.chart_candidates.proofs.Splits.{InRange, Kept, Long}
use Rattle.chart_seeds.proofs.split_seeds_within.Given as goal

abbrev pub invariant-loop-j : goal.invariant-loop-j
invariant-loop-j l = InRange l.step l.first l.end l.j l.x l.y × (l.height + (l.low + 1) ≤ ceiling_number l.best)
    × ((floor : Key) → InNumbers floor → l.low ≡ floor_number floor
    → Kept l.t l.rule (key_number floor) (key_number l.best) l.step l.first l.end l.initial.x l.initial.y l.j l.x l.y
    (key_of_number l.best (l.height + (l.low + 1))))
    × ((floor : Key) → Long l.t l.rule (key_number floor) (key_number l.best) l.step l.first l.end l.initial.x l.initial.y) × (l.stride ≡ l.step * l.j)

abbrev pub decreases-loop-j : goal.decreases-loop-j
decreases-loop-j l = l.end - l.j
