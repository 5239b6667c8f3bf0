-- What stands around the root is put, the rules indexed and the cells marked; then all spans are gone over.
use mathlib.Core.Path.{◌∙◌}
use Rattle.outside_theory.specs.Model.{fill}
use Rattle.outside_weights.proofs.Apart.{found_all}
use Rattle.outside_weights.proofs.fill.Goals as goal

pub over_lengths-requires : goal.over_lengths-requires
over_lengths-requires c =
    (c.requires.sized, found_all _ c.mark_found.ensures)

pub returns : goal.returns
unfolding fill
returns c = (
  c.over_lengths.ensures.0
      ∙ rw (c.make_index.ensures, c.put_around_root.ensures.0, c.put_around_root.ensures.1),
  c.over_lengths.ensures.1 ∙ c.put_around_root.ensures.1,
)
