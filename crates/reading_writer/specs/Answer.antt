-- The reading whose trace stands in an array: document 01, "Packed blocks". Nobody need believe this page: no service's promise names it.
-- Assumes nothing.
use Rattle.std.specs.Prelude.{List, [], ◌∷◌, ℕ, ◌-◌, ◌*◌, take}
use Rattle.packing.specs.Meaning.{Reading}

-- the walk of a trace, which has two numbers for each node: the rule's, and another
unfoldable pub walk_in : List ℕ → List ℕ
walk_in [] = []
walk_in (r ∷ []) = []
walk_in (r ∷ e ∷ l) = r ∷ walk_in l

-- the reading of n slots whose trace stands in front of an array
abbrev pub reading_of : ℕ → ℕ → List ℕ → Reading
reading_of n w array = record { slots = n; weight = w; walk = walk_in (take (2 * (2 * n - 1)) array) }
