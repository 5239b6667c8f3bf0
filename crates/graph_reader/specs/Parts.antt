-- What the inner readers promise of a part of document 02's graph block. Nobody need believe this page. Assumes nothing.
use Rattle.std.specs.Prelude.{◌≡◌, List, ℕ, ◌+◌, ◌*◌, length, Result, Ok, Err}
use Rattle.packing.specs.Meaning.{Edge, edge, word, Graph}
use Rattle.packing.specs.Parse.{Parse, parsed, failed}
use Rattle.packing.specs.Flat.{Overlaid, edge_numbers}
use Rattle.packing.specs.Store.{store_all}
use Rattle.packing.specs.Refusal.{number}
use Rattle.packing.specs.declared.refusal.Refusal.{Refusal}
use Rattle.graph_reader.specs.declared.Edge as E
use Rattle.graph_reader.specs.declared.GraphSize.{GraphSize}
use Rattle.graph_reader.specs.Answer.{graph_size}

-- one edge
abbrev pub edge_of : E.Edge → Edge
edge_of e = edge e.from e.target (word e.word) e.cost

-- from, to and word of an edge as one number
abbrev pub key_of : ℕ → ℕ → ℕ → ℕ
key_of i k w = (i * 32 + k) * 256 + w

-- edges that were parsed, n of them, are stored at the front; a refusal is answered
abbrev pub EdgesAs : ℕ → List ℕ → List ℕ → Parse (List Edge) → Result ℕ Refusal → Type 0
EdgesAs n before after x (Ok next) = (es : List Edge) × (x ≡ parsed es next) × (length es ≡ n) × (after ≡ store_all before 0 (edge_numbers es))
EdgesAs n before after x (Err r) = x ≡ failed (number r)

-- the edges of a graph that was parsed are laid over the front; a refusal is answered
abbrev pub GraphAs : List ℕ → List ℕ → Parse Graph → Result (GraphSize × ℕ) Refusal → Type 0
GraphAs before after x (Ok (z, next)) = (g : Graph) × (x ≡ parsed g next) × (z ≡ graph_size g) × Overlaid (edge_numbers g.edges) before after
GraphAs before after x (Err r) = x ≡ failed (number r)
