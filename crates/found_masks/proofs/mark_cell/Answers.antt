-- A cell without a tree is passed over.
use Rattle.found_masks.proofs.Marking.{cell_passed, cell_marked}
use Rattle.found_masks.proofs.mark_cell.Goals as goal

pub returns-then-price_at-eq0 : goal.returns-then-price_at-eq0
returns-then-price_at-eq0 c =
    cell_passed c.args.t.now c.args.d c.args.c c.cell_number.ensures.0
    c.price_at.ensures.0 c.if-price_at-eq0.true

pub returns : goal.returns
returns c = cell_marked c.mark.ensures
