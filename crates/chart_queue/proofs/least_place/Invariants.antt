-- The loop is the iteration over the queue, with the least key so far beside its place.
use mathlib.Core.Path.{◌≡◌}
use Prim.Native.Nat.{◌-◌, ◌≤◌}
use Rattle.packing.specs.Loop.{iter}
use Rattle.chart_keys.specs.Keys.{key_number}
use Rattle.chart_table.specs.Table.{most_ranks}
use Rattle.chart_queue.specs.Queue.{queued_key, lesser_place}
use Rattle.chart_queue.proofs.least_place.Given as goal

abbrev pub invariant-loop-y : goal.invariant-loop-y
invariant-loop-y l = (l.y ≤ l.m) × (l.x ≤ most_ranks) × (l.x ≡ iter (lesser_place l.t l.d l.number) 0 l.y)
    × (key_number l.best ≡ queued_key l.t l.d l.number l.x)

abbrev pub decreases-loop-y : goal.decreases-loop-y
decreases-loop-y l = l.m - l.y
