-- Derivations: document 01, "Grammars and derivations", which follows document 001, section 2, and document 02, N1, of slots and of
-- word graphs alike. Stands on packing's Meaning.
use Rattle.std.specs.Prelude.{◌≡◌, List, [], ◌∷◌, ◌++◌, ℕ, ◌+◌, ◌<◌, length}
use Rattle.std.proofs.Math.Option.{Option, none, some}
use Rattle.std.proofs.Math.ListN.{get_elem?}
use Rattle.packing.specs.declared.Sym.{Sym}
use Rattle.packing.specs.declared.Word as W
use Rattle.packing.specs.declared.Rule as R
use Rattle.packing.specs.declared.Rule.TheVariants.{Pair, Word}
use Rattle.packing.specs.Meaning.{not_heard, symbol_of, Grammar, Utterance, Edge, edge, edges, Heard, last_place, heard_edges, Reading}

-- rules and edges are named by number: a leaf is a word rule and an edge; a node is a pair rule, the place where its parts
-- meet, and its parts
pub data Tree : Type 0 where
  leaf : (rule edge : ℕ) → Tree
  node : (rule split : ℕ) → Tree → Tree → Tree

-- element n of l is there and is x
abbrev pub At : {A : Type 0} → List A → ℕ → A → Type 0
At l n x = get_elem? l n ≡ some x

-- edge e is there and its word was heard
abbrev pub Offered : List Edge → ℕ → Edge → Type 0
Offered es e (edge i k x c) = At es e (edge i k x c) × (c < not_heard)

-- Derives g es A i k t: t is a tree with head A over the span from place i to place k
pub data Derives (g : Grammar) (es : List Edge) : Sym → ℕ → ℕ → Tree → Type 0 where
  by_word_rule : {A : Sym} {x : W.Word} {r e w c i k : ℕ} → At g.rules r (Word A x w) → Offered es e (edge i k x c)
      → Derives g es A i k (leaf r e)
  by_pair_rule : {A B C : Sym} {r w i j k : ℕ} {s t : Tree} → At g.rules r (Pair A B C w) → i < j → j < k → Derives g es B i j s
      → Derives g es C j k t → Derives g es A i k (node r j s t)

-- what is missing weighs nothing
unfoldable pub rule_weight : Option R.Rule → ℕ
rule_weight none = 0
rule_weight (some (Pair A B C w)) = w
rule_weight (some (Word A x w)) = w

unfoldable pub edge_cost : Option Edge → ℕ
edge_cost none = 0
edge_cost (some (edge i k x c)) = c

-- a leaf's weight is its rule's plus the cost; a node's is its rule's plus both parts'
unfoldable pub weight : Grammar → List Edge → Tree → ℕ
unfolding rule_weight edge_cost
weight g es (leaf r e) = rule_weight (get_elem? g.rules r) + edge_cost (get_elem? es e)
weight g es (node r j s t) = rule_weight (get_elem? g.rules r) + weight g es s + weight g es t

-- the rule number of each node: node, left part, right part
unfoldable pub walk : Tree → List ℕ
walk (leaf r e) = r ∷ []
walk (node r j s t) = r ∷ walk s ++ walk t

-- a derivation has head 0 and spans all slots; of a graph, "a path from place 0 to P−1"
abbrev pub Derivation : Grammar → Heard → Tree → Type 0
Derivation g h t = Derives g (heard_edges h) (symbol_of 0) 0 (last_place h) t

-- its reading of slots, with its own weight
unfoldable pub reading : Grammar → Utterance → Tree → Reading
unfolding weight walk
reading g u t = record { slots = length u; weight = weight g (edges u) t; walk = walk t }
