-- N11's answer as a function that can be run: three passes, over low, high and mixed costs. Nobody need believe this page: proofs/Theorems
-- says that its answer is the one over all choices (Ranges), and that there is no other. Stands on Ranges and on derivation's List.
use Rattle.std.proofs.Math.Option.{Option, none, some}
use Rattle.std.specs.Prelude.{List, [], ◌∷◌, ℕ, zero, suc, eqb, length}
use Rattle.std.proofs.Math.ListN.{get_elem?}
use Rattle.bits.specs.Bits.{pick}
use Rattle.packing.specs.Meaning.{symbol_of, Grammar, Utterance, Edge, edge, edges}
use Rattle.derivation.specs.Derivation.{Tree, weight}
use Rattle.derivation.specs.List.{ranked}
use Rattle.cost_changes.specs.Costs.{edges_of}
use Rattle.cost_changes.specs.Ranges.{Answer, nothing, outweighed, stands}

-- the first derivation over n slots with these edges, and its weight, 0 where there is none
abbrev pub first_of : Grammar → List Edge → ℕ → Option Tree
first_of g es n = get_elem? (ranked g es (symbol_of 0) 0 n) 0

abbrev pub weight_of : Grammar → List Edge → Option Tree → ℕ
weight_of g es none = 0
weight_of g es (some t) = weight g es t

-- the cost of edge e as in the second list
unfoldable pub raise : ℕ → List Edge → List Edge → List Edge
raise e [] fs = []
raise e (a ∷ es) [] = a ∷ es
raise zero (edge i k x c ∷ es) (edge j l y d ∷ fs) = edge i k x d ∷ es
raise (suc e) (a ∷ es) (b ∷ fs) = a ∷ raise e es fs

-- the costs of all these edges
unfoldable pub raised : List ℕ → List Edge → List Edge → List Edge
unfolding raise
raised [] es fs = es
raised (e ∷ l) es fs = raised l (raise e es fs) fs

-- t is the first derivation for the low costs
unfoldable pub answer_of : Grammar → (n : ℕ) (low high : List Edge) → Option Tree → Answer
unfolding raised edges_of weight ranked
answer_of g n low high none = nothing
answer_of g n low high (some t) =
    pick (eqb (weight g high t) (weight_of g (raised (edges_of t) low high) (first_of g (raised (edges_of t) low high) n)))
    (stands (weight g low t) (weight_of g high (first_of g high n)))
    (outweighed (weight g low t) (weight_of g high (first_of g high n)))

unfoldable pub answer : Grammar → Utterance → Utterance → Answer
unfolding answer_of ranked
answer g low high = answer_of g (length low) (edges low) (edges high) (first_of g (edges low) (length low))
