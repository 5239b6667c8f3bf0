use Rattle.chart_heads.proofs.edge_heads.Goals as goal

-- An edge that goes elsewhere says nothing; else the mask of its word is the answer.

pub returns : goal.returns
returns c = λ a e to. rw (← c.number_at-word.ensures.0, ← c.capped.ensures.0, ← c.narrow_at.ensures) e
