-- The reading of a graph whose trace stands in an array, and the fields of a node: document 02, N1. Nobody need believe this page: no
-- service's promise names it. Assumes nothing.
use Rattle.std.specs.Prelude.{List, [], ◌∷◌, ℕ, ◌-◌, ◌*◌, take}
use Rattle.bits.specs.Fields.{Fld, fld}
use Rattle.packing.specs.Meaning.{Node, by_pair, by_word, GraphReading}
use Rattle.packing.specs.Flat.{nodes_in}

-- the reading of n edges whose trace stands in front of an array
abbrev pub graph_reading_of : List ℕ → ℕ → ℕ → List ℕ → GraphReading
graph_reading_of rules n w array = record { edges = n; weight = w; trace = nodes_in rules (take (2 * (2 * n - 1)) array) }

-- a node's fields, where rule numbers have this width
abbrev pub node_fields : ℕ → Node → List Fld
node_fields width (by_pair r) = fld width r ∷ []
node_fields width (by_word r e) = fld width r ∷ fld 7 e ∷ []
