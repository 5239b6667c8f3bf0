-- A price of 0 is none; else its weight is above the unit of weights.
use mathlib.Core.Path.{sym, ◌∙◌}
use native.Mathlib.Omega.{arith}
use Rattle.outside_entries.proofs.Steps.{inside_none, inside_some}
use Rattle.outside_entries.proofs.Views.{inside_plain}
use Rattle.outside_entries.proofs.inside_at.Goals as goal

pub returns-then-price-eq0 : goal.returns-then-price-eq0
returns-then-price-eq0 c = (
  inside_none c.args.t.now c.args.d c.args.number c.price_at-price.ensures.0 c.if-price-eq0.true
      ∙ sym (inside_plain c.args.t.now c.args.d c.args.number),
  omega arith,
)

pub returns : goal.returns
returns c = (
  inside_some c.args.t.now c.args.d c.args.number c.price_at-price.ensures.0 c.if-price-eq0.false
      ∙ sym (inside_plain c.args.t.now c.args.d c.args.number),
  omega (arith, c.price_at-price.ensures.1),
)
