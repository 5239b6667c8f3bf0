-- The outside weights by a pass. Nobody need believe this page: outside_theory's Filled joins it to cost_changes' outside weights.
use Rattle.std.specs.Prelude.{List, ℕ}
use Rattle.outside_theory.specs.Model as M
use Rattle.one_best.specs.declared.Pass.{Pass}

-- the index of the rules by their heads
abbrev pub pairs_of : List ℕ → Pass → List ℕ
pairs_of rules p = M.pairs_of rules p.rules p.table

abbrev pub fill : (o t rules : List ℕ) → Pass → List ℕ
fill o t rules p = M.fill o t rules p.rules p.table
