-- A head that is not in the mask of the edge's word has no rule with it.
use mathlib.Core.Path.{sym}
use Rattle.chart_keys.specs.Keys.{key_number}
use Rattle.chart_candidates.proofs.PassedOver.{word_passed}
use Rattle.chart_leaves.proofs.masked_leaves.Goals as goal

pub returns-then-lacks : goal.returns-then-lacks
returns-then-lacks c =
    let a = c.args in
    sym (word_passed a.rules.now a.edges.now a.index.now a.masks.now a.c 0 (key_number a.best) a.e c.edge_heads.result
    c.requires.2 c.edge_heads.ensures (rw c.wide.ensures.0 at (c.lacks.ensures c.if-lacks.true)))
