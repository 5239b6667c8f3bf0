-- Accepted meanings in flat arrays of numbers, for the contracts of the layers above: document 01, "The listing stands on the meaning
-- of an accepted block, never on its bytes". Nobody need believe this page: no service's promise names it. Assumes nothing.
use Rattle.std.specs.Prelude.{◌≡◌, List, [], ◌∷◌, ◌++◌, map, ℕ, zero, suc, ◌+◌, ◌*◌, length, get_or, take, drop}
use Rattle.packing.specs.Meaning.{
  Grammar,
  MarkedRule,
  marked,
  mark_in,
  Marked,
  grammar_of,
  Candidate,
  candidate,
  Utterance,
  Edge,
  edge,
  word,
  Node,
  by_pair,
  by_word,
}
use Rattle.packing.specs.Parse.{Verdict, accepted, refused}
use Rattle.packing.specs.Source.{values}
use Rattle.packing.specs.Grammar.{rule_of, rules_entries}
use Rattle.packing.specs.Utterance.{slots_entries}
use Rattle.packing.specs.declared.Rule as R
use Rattle.packing.specs.declared.Rule.TheVariants.{Pair, Word}

-- the array begins with the numbers l
abbrev pub Begins : List ℕ → List ℕ → Type 0
Begins l array = take (length l) array ≡ l

-- the array is what stood there before, with the numbers l laid over its front
abbrev pub Overlaid : List ℕ → List ℕ → List ℕ → Type 0
Overlaid l before array = array ≡ l ++ drop (length l) before

-- five numbers for each rule, as in a sheet: kind, head, weight, first, second
abbrev pub rule_numbers : Grammar → List ℕ
rule_numbers g = values (rules_entries g.symbols g.words g.rules)

abbrev pub RulesIn : Verdict Grammar → List ℕ → Type 0
RulesIn (accepted g) array = Begins (rule_numbers g) array
RulesIn (refused n) array = Unit {0}

-- rule r of such an array
abbrev pub rule_at : List ℕ → ℕ → R.Rule
rule_at l r = rule_of (get_or l (5 * r) 0) (get_or l (5 * r + 1) 0) (get_or l (5 * r + 2) 0) (get_or l (5 * r + 3) 0) (get_or l (5 * r + 4) 0)

-- n rules of it, from rule r on, and its first n
unfoldable pub rules_at : List ℕ → ℕ → ℕ → List R.Rule
rules_at l r zero = []
rules_at l r (suc n) = rule_at l r ∷ rules_at l (suc r) n

abbrev pub rules_of : List ℕ → ℕ → List R.Rule
rules_of l n = rules_at l 0 n

-- marks stand in an array of their own, one for each rule
abbrev pub mark_numbers : Marked → List ℕ
mark_numbers m = map mark_in m.rules

abbrev pub MarkedIn : Verdict Marked → List ℕ → List ℕ → Type 0
MarkedIn (accepted m) rules marks = Begins (rule_numbers (grammar_of m)) rules × Begins (mark_numbers m) marks
MarkedIn (refused n) rules marks = Unit {0}

-- n rules of both arrays, from rule r on
unfoldable pub marked_rules_at : List ℕ → List ℕ → ℕ → ℕ → List MarkedRule
marked_rules_at l marks r zero = []
marked_rules_at l marks r (suc n) = marked (rule_at l r) (get_or marks r 0) ∷ marked_rules_at l marks (suc r) n

-- for each slot its count and its words and costs, as in a sheet
abbrev pub slot_numbers : ℕ → Utterance → List ℕ
slot_numbers W u = values (slots_entries W u)

abbrev pub SlotsIn : ℕ → Verdict Utterance → List ℕ → Type 0
SlotsIn W (accepted u) array = Begins (slot_numbers W u) array
SlotsIn W (refused n) array = Unit {0}

-- n candidates of such an array, whose words and costs stand from place p on
unfoldable pub candidates_of : List ℕ → ℕ → ℕ → List Candidate
candidates_of l zero p = []
candidates_of l (suc n) p = candidate (word (get_or l p 0)) (get_or l (p + 1) 0) ∷ candidates_of l n (p + 2)

-- n slots of it, the first of which stands at place p, where a count c stands for f c candidates
unfoldable pub slots_by : (ℕ → ℕ) → List ℕ → ℕ → ℕ → Utterance
slots_by f l zero p = []
slots_by f l (suc n) p = candidates_of l (f (get_or l p 0)) (p + 1) ∷ slots_by f l n (p + 1 + 2 * f (get_or l p 0))

abbrev pub slots_of : List ℕ → ℕ → ℕ → Utterance
slots_of l n p = slots_by (λ c. c) l n p

-- four numbers for each edge: from, to, word, cost
unfoldable pub edge_numbers : List Edge → List ℕ
edge_numbers [] = []
edge_numbers (edge i k w c ∷ es) = i ∷ k ∷ w.0 ∷ c ∷ edge_numbers es

-- two numbers for each node of a trace: the rule's and the edge's. Rule r decides whether a node has an edge; beside a pair rule's number
-- stands any number
abbrev pub node_by : R.Rule → ℕ → ℕ → Node
node_by (Pair h x y w) r e = by_pair r
node_by (Word h x w) r e = by_word r e

abbrev pub node_rule : Node → ℕ
node_rule (by_pair r) = r
node_rule (by_word r e) = r

unfoldable pub nodes_in : List ℕ → List ℕ → List Node
nodes_in rules [] = []
nodes_in rules (r ∷ []) = []
nodes_in rules (r ∷ e ∷ l) = node_by (rule_at rules r) r e ∷ nodes_in rules l
