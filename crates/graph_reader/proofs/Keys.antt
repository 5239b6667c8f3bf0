-- Two edges have places and word alike where their keys are equal, since each number of a key has room in it. Assumes nothing.
use mathlib.Core.Path.{◌≡◌}
use mathlib.Core.List.{List, ◌∷◌, [], ◌++◌}
use Prim.Native.Nat.{ℕ, ◌+◌, ◌*◌, ◌≤◌, ◌<◌}
use native.Mathlib.Omega.{arith}
use lib.Dec.{eqb}
use lib.ListN.{length, take, set}
use Rattle.packing.specs.Meaning.{Edge, edge}
use Rattle.packing.specs.Graph.{edges_alike}
use Rattle.packing.proofs.Alike.{Keyed, keyed_more}
use Rattle.rules_reader.proofs.Keys.{joined}
use Rattle.graph_reader.specs.Parts.{key_of}

abbrev pub edge_key : Edge → ℕ
edge_key (edge i k w c) = key_of i k w.0

-- its numbers have room in a key
abbrev pub Roomy : Edge → Type 0
Roomy (edge i k w c) = (k ≤ 31) × (w.0 ≤ 255)

alike_keys : (e d : Edge) → Roomy e → Roomy d → edges_alike e d ≡ eqb (edge_key e) (edge_key d)
alike_keys (edge i k w c) (edge j l v d) (hk, hw) (hl, hv) =
    rw (joined 256 (i * 32 + k) (j * 32 + l) w.0 v.0 (omega arith) (omega arith), joined 32 i j k l (omega arith) (omega arith))

-- the keys of the edges read so far tell which of them an edge is like
abbrev pub EdgesKeyed : List Edge → List ℕ → Type 0
EdgesKeyed es keys = Keyed edges_alike (λ (e : Edge). e) edge_key Roomy es keys

pub edges_keyed_more : (es : List Edge) (keys : List ℕ) (n key : ℕ) (e : Edge) → Roomy e → n < length keys → key ≡ edge_key e → EdgesKeyed es (take n keys)
    → EdgesKeyed (es ++ (e ∷ [])) (take (n + 1) (set keys n key))
edges_keyed_more = keyed_more edges_alike (λ (e : Edge). e) edge_key Roomy alike_keys
