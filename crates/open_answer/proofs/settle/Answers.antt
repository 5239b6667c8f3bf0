-- Found or not.
use mathlib.Core.Path.{refl}
use Rattle.open_answer.proofs.HandOut.{found_settled, not_found_settled}
use Rattle.open_answer.proofs.settle.Goals as goal

pub returns-then-root_found : goal.returns-then-root_found
returns-then-root_found c =
    let a = c.args in (
      found_settled a.t.now a.rules.now a.edges.now a.plan a.rank c.root_found.ensures c.if-root_found.true c.as_spelled.ensures.0,
      c.as_spelled.ensures.1,
    )

pub returns : goal.returns
returns c =
    let a = c.args in
    (not_found_settled a.t.now a.rules.now a.edges.now a.plan a.rank c.root_found.ensures c.if-root_found.false, refl)
