-- The edges of an array, four numbers each, and the cost of one; the rule numbers that a run keeps. Nobody need believe this page: no
-- service's promise names it. Assumes nothing.
use Rattle.std.specs.Prelude.{◌≡◌, List, [], ◌∷◌, ℕ, zero, suc, ◌+◌, ◌*◌, eqb, ltb, get_or, take, Some, None}
use Rattle.std.specs.Prelude as std
use Rattle.std.proofs.Math.Option.{Option, none, some}
use Rattle.bits.specs.Bits.{pick}
use Rattle.packing.specs.declared.Word as W
use Rattle.packing.specs.declared.Rule as R
use Rattle.packing.specs.Meaning.{not_heard, Edge, edge, word}
use Rattle.packing.specs.Parse.{parsed}
use Rattle.packing.specs.Source.{bytes}
use Rattle.derivation.specs.Path.{rules_read}

-- edge e of an array
abbrev pub edge_at : List ℕ → ℕ → Edge
edge_at l e = edge (get_or l (4 * e) 0) (get_or l (4 * e + 1) 0) (word (get_or l (4 * e + 2) 0)) (get_or l (4 * e + 3) 0)

-- n edges of it, from edge e on, and its first n
unfoldable pub edges_at : List ℕ → ℕ → ℕ → List Edge
edges_at l e zero = []
edges_at l e (suc n) = edge_at l e ∷ edges_at l (suc e) n

abbrev pub edges_of : List ℕ → ℕ → List Edge
edges_of l n = edges_at l 0 n

-- the cost of an edge that starts at a place, carries a word and was heard
abbrev pub cost_at : W.Word → ℕ → Option Edge → Option ℕ
cost_at x place none = none
cost_at x place (some (edge i k y c)) = pick (eqb i place) (pick (eqb y.0 x.0) (pick (ltb c not_heard) (some c) none) none) none

-- where a run found a derivation of m nodes, their rule numbers stand at the front of the array
abbrev pub Kept : List R.Rule → List ℕ → ℕ → List ℕ → std.Option ℕ → Type 0
Kept rules block m array (Some w) = (next : ℕ) × (rules_read rules (bytes 31 block) m 34 ≡ parsed (take m array) next)
Kept rules block m array None = Unit {0}
