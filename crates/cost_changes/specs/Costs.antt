-- The first reading of an utterance, and the words that a tree uses: what the requests of document 02 about changed costs (N11, N12)
-- share. Stands on packing's Meaning and on derivation's Derivation and Rank.
use Rattle.std.specs.Prelude.{◌≡◌, List, [], ◌∷◌, ◌++◌, ℕ}
use Rattle.std.proofs.Math.ListN.{get_elem?}
use Rattle.packing.specs.Meaning.{Grammar, Utterance, Edge, edges, slots}
use Rattle.derivation.specs.Derivation.{Tree, leaf, node, edge_cost, weight, Derivation}
use Rattle.derivation.specs.Rank.{◌∈◌, Rank}

-- the number of the edge of each leaf, from left to right. An edge of an utterance is a slot and a word of it
unfoldable pub edges_of : Tree → List ℕ
edges_of (leaf r e) = e ∷ []
edges_of (node r j s t) = edges_of s ++ edges_of t

abbrev pub Uses : Tree → ℕ → Type 0
Uses t e = e ∈ edges_of t

-- the cost of edge e; what is missing costs nothing
unfoldable pub cost_at : List Edge → ℕ → ℕ
unfolding edge_cost
cost_at es e = edge_cost (get_elem? es e)

-- t is the first reading of u, by the order in force
pub record First (g : Grammar) (u : Utterance) (t : Tree) : Type 0 where
  pub derivation : Derivation g (slots u) t
  pub rank : Rank g (slots u) t 1

-- w is the weight of the first reading
abbrev pub FirstWeight : Grammar → Utterance → ℕ → Type 0
FirstWeight g u w = (t : Tree) × First g u t × (weight g (edges u) t ≡ w)
