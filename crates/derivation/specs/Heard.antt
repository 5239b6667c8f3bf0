-- The readings of derivations of what was heard, slots or a graph, as blocks: document 02, N1, and document 01, "The list of demand 3".
-- Stands on packing's Meaning and its readings' blocks, and on Derivation.
use Rattle.std.specs.Prelude.{List, [], ◌∷◌, ◌++◌, ℕ, ◌+◌, ◌-◌, length}
use Rattle.packing.specs.Meaning.{Grammar, Graph, Heard, slots, graph, Node, by_pair, by_word, GraphReading}
use Rattle.packing.specs.Reading.{block_of_reading, reading_length}
use Rattle.packing.specs.GraphReading.{block_of_graph_reading, graph_reading_length, padded}
use Rattle.derivation.specs.Derivation.{Tree, leaf, node, weight, reading}

-- "the path's edge count"
unfoldable pub path_length : Tree → ℕ
path_length (leaf r e) = 1
path_length (node r j s t) = path_length s + path_length t

-- the rule number of each node, and "a 7-bit edge number .. after each word rule's": node, left part, right part
unfoldable pub trace : Tree → List Node
trace (leaf r e) = by_word r e ∷ []
trace (node r j s t) = by_pair r ∷ trace s ++ trace t

-- a derivation's reading, with its own weight
unfoldable pub graph_reading : Grammar → Graph → Tree → GraphReading
unfolding weight path_length trace
graph_reading g h t = record { edges = path_length t; weight = weight g h.edges t; trace = trace t }

-- its packed block, cut to its own length: "the check takes it" so
abbrev pub own_block : Grammar → Heard → Tree → List ℕ
own_block g (slots u) t = block_of_reading (length g.rules) (reading g u t)
own_block g (graph h) t = block_of_graph_reading (length g.rules) (graph_reading g h t)

-- "In the output each takes the bytes of a P−1 edge reading, the rest zeros": L, and what stands there
abbrev pub output_length : Grammar → Heard → ℕ
output_length g (slots u) = reading_length (length u) (length g.rules)
output_length g (graph h) = graph_reading_length (h.places - 1) (length g.rules)

abbrev pub packed : Grammar → Heard → Tree → List ℕ
packed g (slots u) t = own_block g (slots u) t
packed g (graph h) t = padded (output_length g (graph h)) (own_block g (graph h) t)
