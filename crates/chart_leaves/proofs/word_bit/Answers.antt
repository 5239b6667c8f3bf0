-- No bit is lost by the shift.
use native.Mathlib.Omega.{arith}
use Rattle.masks.proofs.Digits.{shifted}
use Rattle.chart_candidates.specs.PassedOver.{filter_place}
use Rattle.chart_leaves.proofs.word_bit.Goals as goal

pub returns : goal.returns
returns c = shifted 64 (filter_place c.args.word) (omega arith)
