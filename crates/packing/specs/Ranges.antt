-- S and W in their ranges, for the contracts of the readers and writers of rules. Nobody need believe this page. Assumes nothing.
use Rattle.std.specs.Prelude.{ℕ, ◌≤◌}

pub record Ranges (S W : ℕ) : Type 0 where
  pub some_symbol : 1 ≤ S
  pub symbols : S ≤ 32
  pub some_word : 1 ≤ W
  pub words : W ≤ 200
