-- The test for 59 over arrays of edges, and costs raised in one. Nobody need believe this page: the theorems of proofs/ join it to cost_changes'
-- Ranges and Passes.
use Rattle.std.specs.Prelude.{Bool, true, ◌&&◌, List, [], ◌∷◌, ℕ, zero, suc, ◌+◌, ◌*◌, eqb, get_or, set}
use Rattle.std.proofs.Math.Option.{some}
use Rattle.packing.specs.Meaning.{Node, by_pair, by_word}
use Rattle.packing.specs.Flat.{rule_at}
use Rattle.derivation.specs.Derivation.{rule_weight}
use Rattle.cost_changes.specs.Ranges.{cost_rises}
use Rattle.heard_reader.specs.declared.HeardSize.{HeardSize}

-- edge e of two arrays is one edge but for its cost, which rises; and so are n edges from edge e on
abbrev pub edge_rises : List ℕ → List ℕ → ℕ → Bool
edge_rises low high e =
    eqb (get_or low (4 * e) 0) (get_or high (4 * e) 0) && eqb (get_or low (4 * e + 2) 0) (get_or high (4 * e + 2) 0)
    && cost_rises (get_or low (4 * e + 3) 0) (get_or high (4 * e + 3) 0)

unfoldable pub edges_rise : List ℕ → List ℕ → ℕ → ℕ → Bool
edges_rise low high e zero = true
edges_rise low high e (suc n) = edge_rises low high e && edges_rise low high (suc e) n

abbrev pub both_rise : List ℕ → HeardSize → List ℕ → HeardSize → Bool
both_rise low y high z = eqb y.last z.last && eqb y.edges z.edges && edges_rise low high 0 y.edges

-- the costs of an array of edges with a leaf's raised, and a node's weight
abbrev pub raise_node : List ℕ → List ℕ → Node → List ℕ
raise_node high costs (by_pair r) = costs
raise_node high costs (by_word r e) = set costs (4 * e + 3) (get_or high (4 * e + 3) 0)

abbrev pub node_weight : List ℕ → List ℕ → Node → ℕ
node_weight rules high (by_pair r) = rule_weight (some (rule_at rules r))
node_weight rules high (by_word r e) = rule_weight (some (rule_at rules r)) + get_or high (4 * e + 3) 0

-- the same of all nodes of a tree
unfoldable pub raise_nodes : List ℕ → List ℕ → List Node → List ℕ
raise_nodes high costs [] = costs
raise_nodes high costs (x ∷ xs) = raise_nodes high (raise_node high costs x) xs

unfoldable pub nodes_weight : List ℕ → List ℕ → List Node → ℕ
nodes_weight rules high [] = 0
nodes_weight rules high (x ∷ xs) = node_weight rules high x + nodes_weight rules high xs
