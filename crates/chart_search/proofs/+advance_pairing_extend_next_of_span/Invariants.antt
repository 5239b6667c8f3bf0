-- By the span's length, which falls: `next_of_span` goes to `advance_pairing` over the same span, that to `extend` over the parts,
-- and that to `next_of_span` again. Each promise holds for any fuel of at least that length, so the part's is taken at one less.
use Rattle.std.proofs.Common.{◌+◌, ◌-◌, ◌*◌}
use Rattle.chart_search.proofs.+advance_pairing_extend_next_of_span.Given as goal

abbrev pub decreases-advance_pairing : goal.decreases-advance_pairing
decreases-advance_pairing l = 3 * (l.part.cell.to - l.part.cell.from)

abbrev pub decreases-extend : goal.decreases-extend
decreases-extend l = 3 * (l.part.cell.to - l.part.cell.from) + 2

abbrev pub decreases-next_of_span : goal.decreases-next_of_span
decreases-next_of_span l = 3 * (l.part.cell.to - l.part.cell.from) + 1
