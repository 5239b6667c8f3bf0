-- At once where there is room for all, else one after another.
use native.Mathlib.Omega.{arith}
use Rattle.chart_journal.proofs.Kept.{kept_at_once}
use Rattle.chart_journal.proofs.keep_four.Goals as goal

pub returns-then-to-kept : goal.returns-then-to-kept
returns-then-to-kept c =
    let a = c.args in
    rw (c.store.ensures, c.copy_four.ensures)
    (kept_at_once a.t.now a.kept.now _ a.at c.number_at-n.ensures.0 c.if-n-le-MOST_KEPT.true (omega (arith, c.if-to-kept.true)))
