-- What the calls tell, one after another.
use native.Mathlib.Omega.{arith}
use Rattle.outside_entries.proofs.Views.{lower_told}
use Rattle.outside_entries.proofs.lower.Goals as goal

pub lesser-least-requires : goal.lesser-least-requires
lesser-least-requires c = (omega (arith, c.outside_at.ensures.1), c.requires.1)

pub returns : goal.returns
returns c =
    lower_told c.args.t.now c.args.number c.args.x c.outside_at.ensures.0 c.lesser-least.ensures.0
    c.store.ensures
