-- Each call has the meaning of its part of the definition, and without masks nothing is passed over.
use native.Mathlib.Omega.{arith}
use Rattle.chart_keys.specs.Keys.{no_key}
use Rattle.chart_candidates.proofs.PassedOver.{leaves_below}
use Rattle.chart_successors.specs.Successors.{least_initial}
use Rattle.chart_successors.proofs.least_initial.Goals as goal

pub seeds-requires : goal.seeds-requires
seeds-requires c =
    (c.requires, λ h. absurd (omega (arith, h)), rw (c.leaves-leaf.ensures, c.no_key.ensures) (leaves_below _ _ _ _ _ no_key))
