-- Each call has the meaning of its part of the definition.
use Rattle.chart_candidates.specs.Candidates.{pair_key}
use Rattle.chart_candidates.proofs.pair_key.Goals as goal

pub returns : goal.returns
unfolding pair_key
returns c =
    rw (
      c.back_number-back.ensures.0,
      c.join_price-price.ensures,
      c.price_at-y.ensures.0,
      c.cell_number-2.ensures.0,
      c.price_at-x.ensures.0,
      c.cell_number.ensures.0,
    )
