-- The order of two trees with one head and one span: document 01, "Order", as document 02, N6, changes it. Stands on Derivation.
use Prim.Native.Nat.{ℕ, ◌+◌, compare, Ordering}
use Rattle.std.specs.Prelude.{List, ◌≡◌}
use Rattle.std.proofs.Math.ListN.{get_elem?}
use Rattle.packing.specs.Meaning.{Grammar, Edge}
use Rattle.derivation.specs.Derivation.{Tree, leaf, node, edge_cost, weight}

infixr 20 ◌▸◌
-- one comparison, and another where the first finds no difference
unfoldable pub ◌▸◌ : Ordering → Ordering → Ordering
Ordering.lt ▸ o = Ordering.lt
Ordering.eq ▸ o = o
Ordering.gt ▸ o = Ordering.gt

-- the sum of the costs used: those of the tree's words, without the weights of its rules
unfoldable pub cost_sum : List Edge → Tree → ℕ
unfolding edge_cost
cost_sum es (leaf r e) = edge_cost (get_elem? es e)
cost_sum es (node r j s t) = cost_sum es s + cost_sum es t

-- lower weight; then lower sum of costs; then lower rule number; then lower split, which over one span is fewer slots in the left
-- part; then the left parts by this same order, weight and costs included; then the right parts likewise.
-- A rule has leaves or nodes, never both. Two leaves of a rule over one span have one word, so in slots they have one edge
unfoldable pub order : Grammar → List Edge → Tree → Tree → Ordering
order g es (leaf r e) (leaf s f) =
    compare (weight g es (leaf r e)) (weight g es (leaf s f)) ▸ compare (cost_sum es (leaf r e)) (cost_sum es (leaf s f))
    ▸ compare r s ▸ compare e f
order g es (leaf r e) (node s k c d) =
    compare (weight g es (leaf r e)) (weight g es (node s k c d)) ▸ compare (cost_sum es (leaf r e)) (cost_sum es (node s k c d))
    ▸ compare r s ▸ Ordering.lt
order g es (node r j a b) (leaf s f) =
    compare (weight g es (node r j a b)) (weight g es (leaf s f)) ▸ compare (cost_sum es (node r j a b)) (cost_sum es (leaf s f))
    ▸ compare r s ▸ Ordering.gt
order g es (node r j a b) (node s k c d) =
    compare (weight g es (node r j a b)) (weight g es (node s k c d)) ▸ compare (cost_sum es (node r j a b)) (cost_sum es (node s k c d))
    ▸ compare r s ▸ compare j k ▸ order g es a c ▸ order g es b d

-- s comes before t
abbrev pub Before : Grammar → List Edge → Tree → Tree → Type 0
Before g es s t = order g es s t ≡ Ordering.lt
