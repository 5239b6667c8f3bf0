-- A tree's weight is its rules' and the costs of the edges that it uses, so it goes with the costs.
use mathlib.Core.Path.{◌≡◌}
use mathlib.Core.List.{List}
use Prim.Native.Nat.{ℕ, ◌+◌, ◌≤◌}
use native.Mathlib.Omega.{arith}
use lib.ListN.{get_elem?}
use Rattle.packing.specs.Meaning.{Grammar, Edge}
use Rattle.derivation.specs.Derivation.{Tree, leaf, node, rule_weight, weight}
use Rattle.cost_changes.specs.Costs.{cost_at, edges_of, Uses}
use Rattle.cost_changes.proofs.Sums.{total, total_append, total_mono}
use Rattle.cost_changes.proofs.Alike.{NoDearer}

unfoldable pub rules_weight : Grammar → Tree → ℕ
unfolding rule_weight
rules_weight g (leaf r e) = rule_weight (get_elem? g.rules r)
rules_weight g (node r j s t) = rule_weight (get_elem? g.rules r) + rules_weight g s + rules_weight g t

pub weight_parts : (g : Grammar) (es : List Edge) (t : Tree) → weight g es t ≡ rules_weight g t + total (cost_at es) (edges_of t)
unfolding weight rules_weight edges_of total cost_at
weight_parts g es (leaf r e) = omega arith
weight_parts g es (node r j s t) =
    omega (arith, weight_parts g es s, weight_parts g es t, total_append (cost_at es) (edges_of s) (edges_of t))

-- where no cost falls no weight does
pub weight_mono : (g : Grammar) (es fs : List Edge) → NoDearer es fs → (t : Tree) → weight g es t ≤ weight g fs t
weight_mono g es fs h t =
    omega (arith, weight_parts g es t, weight_parts g fs t, total_mono (cost_at es) (cost_at fs) (edges_of t) (λ e m. h e))

-- what costs the same on the edges used weighs the same
pub weight_same : (g : Grammar) (es fs : List Edge) (t : Tree) → ((e : ℕ) → Uses t e → cost_at es e ≡ cost_at fs e)
    → weight g es t ≡ weight g fs t
weight_same g es fs t h =
    let up = total_mono (cost_at es) (cost_at fs) (edges_of t) (λ e m. omega (arith, h e m)) in
    let down = total_mono (cost_at fs) (cost_at es) (edges_of t) (λ e m. omega (arith, h e m)) in
    omega (arith, weight_parts g es t, weight_parts g fs t)
