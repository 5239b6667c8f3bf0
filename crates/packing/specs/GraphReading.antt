-- Reading blocks of a graph, kind 6, under a grammar of R rules: document 02, N1, and its row reading block up to 33; 34 to 36 are
-- the check's. Assumes nothing.
use Rattle.std.specs.Prelude.{◌≡◌, List, [], ◌∷◌, ◌++◌, ℕ, suc, ◌+◌, ◌-◌, ◌*◌, ◌/◌, ◌≤◌, ◌<◌, ltb, length, get_or, replicate}
use Rattle.bits.specs.Bits.{pick, bit_at, pack}
use Rattle.bits.specs.Width.{width_of}
use Rattle.bits.specs.Fields.{bits_of_all}
use Rattle.packing.specs.Meaning.{Node, by_pair, by_word, GraphReading}
use Rattle.packing.specs.Parse.{Parse, parsed, failed, ◌⟫◌}
use Rattle.packing.specs.Source.{bytes, field_at, within, Entry, entry, flds, Field}
use Rattle.packing.specs.Grammar.{block_kind}
use Rattle.packing.specs.Reading.{reading_weight, rule_number}

-- the fields: the path's edges, at most `most` of them, and an edge's number; any edge number can be read
abbrev pub path_edges : ℕ → Field
path_edges most = within 6 1 most 33

abbrev pub edge_number : Field
edge_number = within 7 0 127 34

-- the fields of a reading with their values: after each word rule's number its edge's
abbrev pub node_entries : ℕ → Node → List Entry
node_entries R (by_pair r) = entry (rule_number R) r ∷ []
node_entries R (by_word r e) = entry (rule_number R) r ∷ entry edge_number e ∷ []

unfoldable pub trace_entries : ℕ → List Node → List Entry
trace_entries R [] = []
trace_entries R (x ∷ xs) = node_entries R x ++ trace_entries R xs

unfoldable pub graph_reading_entries : ℕ → GraphReading → List Entry
graph_reading_entries R d =
    entry (block_kind 6 32) 6 ∷ entry (path_edges d.edges) d.edges ∷ entry reading_weight d.weight ∷ trace_entries R d.trace

-- its block, cut to its own length
unfoldable pub block_of_graph_reading : ℕ → GraphReading → List ℕ
block_of_graph_reading R d = pack (bits_of_all (flds (graph_reading_entries R d)))

-- its length for a path of n edges, in bits and in bytes: kind, n, weight, n word rules and n − 1 pair rules, and n edge numbers
abbrev pub graph_reading_bits : ℕ → ℕ → ℕ
graph_reading_bits n R = 34 + (2 * n - 1) * width_of (R - 1) + 7 * n

unfoldable pub graph_reading_length : ℕ → ℕ → ℕ
graph_reading_length n R = (graph_reading_bits n R + 7) / 8

-- "In the output each takes the bytes of a P−1 edge reading, the rest zeros"
unfoldable pub padded : ℕ → List ℕ → List ℕ
padded L block = block ++ replicate (L - length block) 0

-- how many of the nodes are by a word rule
unfoldable pub word_nodes : List Node → ℕ
word_nodes [] = 0
word_nodes (by_pair r ∷ xs) = word_nodes xs
word_nodes (by_word r e ∷ xs) = suc (word_nodes xs)

-- n and the weight
pub record GraphHead : Type 0 where
  pub edges : ℕ
  pub weight : ℕ

-- those of a block for paths of at most `most` edges: "31 means fewer bits than n word rules and n−1 pair rules need"
unfoldable pub graph_head_from : ℕ → ℕ → List ℕ → Parse GraphHead
graph_head_from most R s =
    let src = bytes 31 s in
    field_at src 0 (block_kind 6 32) ⟫ λ kind at. field_at src at (path_edges most) ⟫ λ n at.
    pick (ltb (8 * length s) (graph_reading_bits n R)) (failed 31)
    (field_at src at reading_weight ⟫ λ w at. parsed (record { edges = n; weight = w }) at)

-- the bits of these nodes stand in the block behind n and the weight, from bit 34 on
abbrev pub TraceIn : ℕ → List Node → List ℕ → Type 0
TraceIn R xs s =
    let bits = bits_of_all (flds (trace_entries R xs)) in
    (34 + length bits ≤ 8 * length s) × ((k : ℕ) → k < length bits → bit_at s (34 + k) ≡ get_or bits k 0)
