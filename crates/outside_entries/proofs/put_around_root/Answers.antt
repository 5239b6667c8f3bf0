-- Of zeros the root's is lowered to 1.
use mathlib.Core.Path.{◌∙◌}
use native.Mathlib.Omega.{arith}
use Rattle.outside_entries.proofs.Views.{lower_zeros}
use Rattle.outside_entries.proofs.put_around_root.Goals as goal

pub cell_number-requires : goal.cell_number-requires
cell_number-requires c = (
  c.requires.0,
  rw c.root.ensures (omega arith),
  rw c.root.ensures c.requires.1,
  rw c.root.ensures c.requires.0.places,
)

pub returns : goal.returns
returns c = (
  c.lower.ensures.0
      ∙ rw (c.blank.ensures.0, c.cell_number.ensures.0, c.root.ensures, lower_zeros),
  c.lower.ensures.1 ∙ c.blank.ensures.1,
)
