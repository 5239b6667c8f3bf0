-- What was heard, and the same without the words that were not: document 02, N3, "In slots and edges alike such a word is not offered; a slot may hold only
-- such words and then no derivation uses it" and "The comparison with document 001 is made after those candidates are struck out".
-- Stands on packing's Meaning and on derivation's Derivation, Rank and Struck.
use Rattle.std.specs.Prelude.{◌≡◌, ◌↔◌, List, [], ◌∷◌, ℕ, zero, suc, ltb}
use Rattle.bits.specs.Bits.{pick}
use Rattle.packing.specs.declared.Word as W
use Rattle.packing.specs.Meaning.{not_heard, Grammar, Utterance, Candidate, candidate, Edge, edge, Heard, slots, graph, heard_edges}
use Rattle.derivation.specs.Derivation.{At, Tree, leaf, node, Derivation, weight, walk}
use Rattle.derivation.specs.Rank.{◌∈◌, Rank}
use Rattle.derivation.specs.Struck.{struck_out}

-- the edges whose word was heard, and what was heard without the others
unfoldable pub heard_only : List Edge → List Edge
heard_only [] = []
heard_only (edge i k x c ∷ es) = pick (ltb c not_heard) (edge i k x c ∷ heard_only es) (heard_only es)

abbrev pub struck : Heard → Heard
struck (slots u) = slots (struck_out u)
struck (graph x) = graph (record { places = x.places; edges = heard_only x.edges })

-- the number of edge e among those that are left: how many of the edges before it were heard
unfoldable pub number_left : List Edge → ℕ → ℕ
number_left [] e = 0
number_left (a ∷ es) zero = 0
number_left (edge i k x c ∷ es) (suc e) = pick (ltb c not_heard) (suc (number_left es e)) (number_left es e)

-- a tree with these numbers
unfoldable pub numbered : List Edge → Tree → Tree
numbered es (leaf r e) = leaf r (number_left es e)
numbered es (node r j s t) = node r j (numbered es s) (numbered es t)

-- both have the same derivations at the same ranks, with the same rules and of the same weight
pub record SameLeft (g : Grammar) (h : Heard) : Type 0 where
  pub each : (t : Tree) → Derivation g h t → Derivation g (struck h) (numbered (heard_edges h) t)
  pub no_other : (t' : Tree) → Derivation g (struck h) t' → (t : Tree) × Derivation g h t × (t' ≡ numbered (heard_edges h) t)
  pub ranks : (t : Tree) (k : ℕ) → Derivation g h t → Rank g h t k ↔ Rank g (struck h) (numbered (heard_edges h) t) k
  pub weights : (t : Tree) → Derivation g h t → weight g (heard_edges (struck h)) (numbered (heard_edges h) t) ≡ weight g (heard_edges h) t
  pub walks : (t : Tree) → walk (numbered (heard_edges h) t) ≡ walk t

-- a slot of only such words
abbrev pub Unheard : List Candidate → Type 0
Unheard slot = (x : W.Word) (c : ℕ) → candidate x c ∈ slot → c ≡ not_heard

-- N3, of every grammar and of whatever was heard
pub record NotHeard : Type 0 where
  pub same : (g : Grammar) (h : Heard) → SameLeft g h
  pub none_left : (g : Grammar) (u : Utterance) (s : ℕ) {slot : List Candidate} → At u s slot → Unheard slot → (t : Tree) → ¬ Derivation g (slots u) t
