-- A head that is not in the mask has no leaf.
use mathlib.Core.Path.{sym, ◌∙◌}
use native.Mathlib.Nat.{le_refl}
use Rattle.chart_keys.specs.Keys.{no_key}
use Rattle.chart_candidates.proofs.PassedOver.{leaves_below, no_leaves}
use Rattle.chart_leaves.proofs.first_leaf.Goals as goal

pub returns-then-lacks : goal.returns-then-lacks
returns-then-lacks c = (
  c.no_key.ensures ∙ sym (no_leaves _ _ _ _ 0 no_key
      (c.requires.from_le_last_place.2 (rw c.wide.ensures.0 at (c.lacks.ensures c.if-lacks.true)))),
  rw c.no_key.ensures (le_refl no_key),
)

pub returns : goal.returns
returns c = (c.least_leaf.ensures, rw c.least_leaf.ensures (leaves_below _ _ _ _ 0 no_key))
