-- Graph blocks under a grammar of W words: document 02, N1. Assumes nothing.
use Rattle.std.specs.Prelude.{List, [], ◌∷◌, ◌++◌, Bool, ◌&&◌, ℕ, suc, ◌-◌, eqb, length}
use Rattle.bits.specs.Bits.{pack, ended}
use Rattle.bits.specs.Fields.{bits_of_all}
use Rattle.packing.specs.Meaning.{Edge, edge, word, Graph}
use Rattle.packing.specs.Parse.{Parse, parsed, ◌⟫◌, Verdict, finish}
use Rattle.packing.specs.Source.{Source, bytes, field_at, within, Entry, entry, flds, Field}
use Rattle.packing.specs.Alike.{unlike_from}
use Rattle.packing.specs.Grammar.{block_kind}
use Rattle.packing.specs.Utterance.{offered, cost}

-- the fields: P and the number of edges; an edge's places and its word. The start has no range of its own: 51 stands behind the
-- end. A word need not be above another, so 15 does not come
abbrev pub place_count : Field
place_count = within 5 2 25 13

abbrev pub edge_count : Field
edge_count = within 7 1 96 13

abbrev pub start_place : Field
start_place = within 5 0 31 51

abbrev pub end_place : ℕ → ℕ → Field
end_place P start = within 5 (suc start) (P - 1) 51

abbrev pub edge_word : ℕ → Field
edge_word W = offered W 0

unfoldable pub edge_from : Source → ℕ → ℕ → ℕ → Parse Edge
edge_from src W P at =
    field_at src at start_place ⟫ λ i at. field_at src at (end_place P i) ⟫ λ k at. field_at src at (edge_word W) ⟫ λ w at. field_at src at cost ⟫ λ c at.
    parsed (edge i k (word w) c) at

-- from, to and word are equal
abbrev pub edges_alike : Edge → Edge → Bool
edges_alike (edge i k w c) (edge i' k' w' c') = eqb i i' && eqb k k' && eqb w.0 w'.0

-- n edges behind the earlier ones
abbrev pub graph_edges_from : Source → ℕ → ℕ → ℕ → ℕ → List Edge → Parse (List Edge)
graph_edges_from src W P n at es = unlike_from (edge_from src W P) edges_alike 52 n at es

-- P and the number of edges, then the edges
unfoldable pub graph_from : Source → ℕ → ℕ → Parse Graph
graph_from src W at =
    field_at src at place_count ⟫ λ P at. field_at src at edge_count ⟫ λ n at.
    graph_edges_from src W P n at [] ⟫ λ es at. parsed (record { places = P; edges = es }) at

-- the meaning of a graph block
unfoldable pub graph_block : ℕ → List ℕ → Verdict Graph
graph_block W s = finish (ended s) 16 (field_at (bytes 11 s) 0 (block_kind 5 12) ⟫ λ kind at. graph_from (bytes 11 s) W at)

-- the fields of a graph with their values, and its block
abbrev pub edge_entries : ℕ → ℕ → Edge → List Entry
edge_entries W P (edge i k w c) = entry start_place i ∷ entry (end_place P i) k ∷ entry (edge_word W) w.0 ∷ entry cost c ∷ []

unfoldable pub edges_entries : ℕ → ℕ → List Edge → List Entry
edges_entries W P [] = []
edges_entries W P (e ∷ es) = edge_entries W P e ++ edges_entries W P es

unfoldable pub graph_entries : ℕ → Graph → List Entry
graph_entries W g = entry place_count g.places ∷ entry edge_count (length g.edges) ∷ edges_entries W g.places g.edges

unfoldable pub block_of_graph : ℕ → Graph → List ℕ
block_of_graph W g = pack (bits_of_all (flds (entry (block_kind 5 12) 5 ∷ graph_entries W g)))
