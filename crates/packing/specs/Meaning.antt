-- What blocks and sheets mean: document 01, "Grammars and derivations", and document 02, N1 and N5. Assumes nothing.
use Rattle.std.specs.Prelude.{Bool, false, List, [], ◌∷◌, ◌++◌, map, ℕ, suc, ◌-◌, length}
use Rattle.packing.specs.declared.Sym.{Sym}
use Rattle.packing.specs.declared.Word as W
use Rattle.packing.specs.declared.Rule as R

-- symbols and words are numbered apart
abbrev pub symbol_of : ℕ → Sym
symbol_of n = record { 0 = n }

abbrev pub word : ℕ → W.Word
word n = record { 0 = n }

-- S, W and the rules, numbered from 0; symbol 0 is the start
pub record Grammar : Type 0 where
  pub symbols : ℕ
  pub words : ℕ
  pub rules : List R.Rule

-- a rule with its mark: 1 for a helper's rule, 0 otherwise
pub data MarkedRule : Type 0 where
  marked : (r : R.Rule) (mark : ℕ) → MarkedRule

abbrev pub rule_in : MarkedRule → R.Rule
rule_in (marked r m) = r

abbrev pub mark_in : MarkedRule → ℕ
mark_in (marked r m) = m

abbrev pub unmarked_rule : R.Rule → MarkedRule
unmarked_rule r = marked r 0

-- a grammar as a block or a sheet has it: of kind 4, whose rules bear marks, or of kind 1, which reads as unmarked
pub record Marked : Type 0 where
  pub marking : Bool
  pub symbols : ℕ
  pub words : ℕ
  pub rules : List MarkedRule

-- its grammar, and a grammar of kind 1
abbrev pub grammar_of : Marked → Grammar
grammar_of m = record { symbols = m.symbols; words = m.words; rules = map rule_in m.rules }

abbrev pub unmarked : Grammar → Marked
unmarked g = record { marking = false; symbols = g.symbols; words = g.words; rules = map unmarked_rule g.rules }

-- a word that a slot offers, with its cost
pub data Candidate : Type 0 where
  candidate : (w : W.Word) (cost : ℕ) → Candidate

-- the slots of an utterance, each with its candidates
abbrev pub Utterance : Type 0
Utterance = List (List Candidate)

-- a recogniser writes this cost for a word that was not heard: document 02, N3. Such a word is not offered
abbrev pub not_heard : ℕ
not_heard = 65535

-- from a place to a later one, by a word with its cost
pub data Edge : Type 0 where
  edge : (from to : ℕ) (w : W.Word) (cost : ℕ) → Edge

-- a candidate of slot i goes from place i to place i + 1
unfoldable pub slot_edges : ℕ → List Candidate → List Edge
slot_edges i [] = []
slot_edges i (candidate w c ∷ cs) = edge i (suc i) w c ∷ slot_edges i cs

unfoldable pub edges_from : ℕ → Utterance → List Edge
edges_from i [] = []
edges_from i (cs ∷ slots) = slot_edges i cs ++ edges_from (suc i) slots

abbrev pub edges : Utterance → List Edge
edges u = edges_from 0 u

-- n, the weight, and the rule number of each node: node, left part, right part
pub record Reading : Type 0 where
  pub slots : ℕ
  pub weight : ℕ
  pub walk : List ℕ

-- a word graph: P and the edges, numbered from 0; place 0 is the first and place P − 1 the last
pub record Graph : Type 0 where
  pub places : ℕ
  pub edges : List Edge

-- what was heard
pub data Heard : Type 0 where
  slots : Utterance → Heard
  graph : Graph → Heard

-- a derivation spans a path from place 0 to the last place, by these edges
abbrev pub last_place : Heard → ℕ
last_place (slots u) = length u
last_place (graph g) = g.places - 1

abbrev pub heard_edges : Heard → List Edge
heard_edges (slots u) = edges u
heard_edges (graph g) = g.edges

-- slots redrawn as a graph: a place before each slot and one behind the last
abbrev pub redrawn : Utterance → Graph
redrawn u = record { places = suc (length u); edges = edges u }

-- a node of a tree, by a pair rule or by a word rule over an edge, by their numbers
pub data Node : Type 0 where
  by_pair : (rule : ℕ) → Node
  by_word : (rule edge : ℕ) → Node

-- a reading of a graph: how many edges its path has, the weight, and each node: node, left part, right part
pub record GraphReading : Type 0 where
  pub edges : ℕ
  pub weight : ℕ
  pub trace : List Node
