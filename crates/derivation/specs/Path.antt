-- When the bits of a graph's reading are the nodes of a derivation, and its weight, found node by node: document 02, N1, and
-- document 01, "Where each check stands", 34 and 35.
-- Stands on packing's Meaning and fields alone. Nobody need believe this page: proofs/Path says that it agrees with Heard.
use Rattle.std.proofs.Math.Option.{Option, none, some}
use Rattle.std.specs.Prelude.{List, [], ◌∷◌, ℕ, zero, suc, ◌+◌, ◌-◌, ◌*◌, eqb, ltb, length}
use Rattle.std.proofs.Math.ListN.{get_elem?}
use Rattle.bits.specs.Bits.{pick}
use Rattle.packing.specs.declared.Sym.{Sym}
use Rattle.packing.specs.declared.Word as W
use Rattle.packing.specs.declared.Rule as R
use Rattle.packing.specs.declared.Rule.TheVariants.{Pair, Word}
use Rattle.packing.specs.Meaning.{not_heard, symbol_of, Edge, edge, Node, by_pair, by_word}
use Rattle.packing.specs.Parse.{Parse, parsed, failed, ◌⟫◌}
use Rattle.packing.specs.Source.{Source, bytes, field_at}
use Rattle.packing.specs.Reading.{rule_number}
use Rattle.packing.specs.GraphReading.{edge_number}
use Rattle.packing.specs.Flat.{node_rule}

-- how far a path has come: its place, the edges that are left of it, the heads of the parts that are to come, the next first, and
-- the weight so far; or that it is none
pub data State : Type 0 where
  onward : (place left : ℕ) (heads : List Sym) (weight : ℕ) → State
  stuck : State

-- an edge is taken if it starts where the path stands, carries the word and was heard
unfoldable pub edge_step : W.Word → ℕ → ℕ → List Sym → ℕ → Option Edge → State
edge_step x place left heads w none = stuck
edge_step x place left heads w (some (edge i k y c)) =
    pick (eqb i place) (pick (eqb y.0 x.0) (pick (ltb c not_heard) (onward k left heads (w + c)) stuck) stuck) stuck

-- the next part has head A, and the rule is given: a pair rule puts two parts in its place, where each part to come still has an
-- edge of its own
unfoldable pub pair_step : ℕ → ℕ → Sym → List Sym → ℕ → Option R.Rule → State
pair_step place left A heads w none = stuck
pair_step place left A heads w (some (Word H x v)) = stuck
pair_step place left A heads w (some (Pair H B C v)) =
    pick (eqb H.0 A.0) (pick (ltb (suc (length heads)) left) (onward place left (B ∷ C ∷ heads) (w + v)) stuck) stuck

-- a word rule takes an edge
unfoldable pub word_step : ℕ → ℕ → Sym → List Sym → ℕ → Option R.Rule → Option Edge → State
unfolding edge_step
word_step place left A heads w none e = stuck
word_step place left A heads w (some (Pair H B C v)) e = stuck
word_step place zero A heads w (some (Word H x v)) e = stuck
word_step place (suc left) A heads w (some (Word H x v)) e = pick (eqb H.0 A.0) (edge_step x place left heads (w + v) e) stuck

-- one node
unfoldable pub step : List R.Rule → List Edge → State → Node → State
unfolding pair_step word_step
step rules es stuck x = stuck
step rules es (onward place left [] w) x = stuck
step rules es (onward place left (A ∷ heads) w) (by_pair r) = pair_step place left A heads w (get_elem? rules r)
step rules es (onward place left (A ∷ heads) w) (by_word r e) = word_step place left A heads w (get_elem? rules r) (get_elem? es e)

-- the node at a bit: its rule's number, and of a word rule an edge's
unfoldable pub node_by : Source → ℕ → ℕ → Option R.Rule → Parse Node
node_by src r at none = failed 34
node_by src r at (some (Pair H B C v)) = parsed (by_pair r) at
node_by src r at (some (Word H x v)) = field_at src at edge_number ⟫ λ e at. parsed (by_word r e) at

unfoldable pub node_from : List R.Rule → Source → ℕ → Parse Node
unfolding node_by
node_from rules src at = field_at src at (rule_number (length rules)) ⟫ λ r at. node_by src r at (get_elem? rules r)

-- the rule numbers of m nodes, from bit `at` on
unfoldable pub rules_read : List R.Rule → Source → ℕ → ℕ → Parse (List ℕ)
rules_read rules src zero at = parsed [] at
rules_read rules src (suc m) at = node_from rules src at ⟫ λ x at. rules_read rules src m at ⟫ λ l at. parsed (node_rule x ∷ l) at

-- m nodes
unfoldable pub run_from : List R.Rule → List Edge → Source → ℕ → State → ℕ → Parse State
unfolding node_from step
run_from rules es src zero s at = parsed s at
run_from rules es src (suc m) s at = node_from rules src at ⟫ λ x at. run_from rules es src m (step rules es s x) at

-- a path ends at the last place, where none of its edges is left and no part is to come
unfoldable pub finished : ℕ → State → Option ℕ
finished last stuck = none
finished last (onward place (suc left) heads w) = none
finished last (onward place zero (A ∷ heads) w) = none
finished last (onward place zero [] w) = pick (eqb place last) (some w) none

abbrev pub weight_at : ℕ → Parse State → Option ℕ
weight_at last (parsed s at) = finished last s
weight_at last (failed n) = none

-- the weight of the derivation of n edges up to the last place whose nodes stand in a block from bit 34 on, if there is one
unfoldable pub path_weight : List R.Rule → List Edge → ℕ → ℕ → List ℕ → Option ℕ
unfolding run_from finished
path_weight rules es last n s = weight_at last (run_from rules es (bytes 31 s) (2 * n - 1) (onward 0 n (symbol_of 0 ∷ []) 0) 34)
