-- Where every edge goes forward, a tree spans something, its path has no more edges than its span has places, and its weight is bounded.
-- It has one node less than twice its path's edges.
use mathlib.Core.Path.{◌≡◌, refl}
use mathlib.Core.List.{List}
use Prim.Native.Nat.{ℕ, suc, ◌+◌, ◌-◌, ◌*◌, ◌≤◌, ◌<◌}
use native.Mathlib.Omega.{arith}
use lib.ListN.{length, length-append}
use Rattle.packing.specs.declared.Sym.{Sym}
use Rattle.packing.specs.declared.Word as W
use Rattle.packing.specs.Meaning.{Grammar, Edge, edge}
use Rattle.derivation.specs.Derivation.{At, Tree, leaf, node, Derives, by_word_rule, by_pair_rule, rule_weight, edge_cost, weight, walk}
use Rattle.derivation.specs.Order.{cost_sum}
use Rattle.derivation.specs.Heard.{path_length}
use Rattle.derivation.proofs.Ranges.{All, all_at, Light}
use Rattle.derivation.proofs.Rows.{leaf_weight, node_weight_lem}
use Rattle.derivation.proofs.Slots.{CheapEdges}

-- every edge goes forward
abbrev pub Forward : List Edge → Type 0
Forward es = (e i k c : ℕ) (x : W.Word) → At es e (edge i k x c) → i < k

module _ (g : Grammar) (es : List Edge) (forward : Forward es) where
  pub path_bound : {A : Sym} {i k : ℕ} {t : Tree} → Derives g es A i k t → (1 ≤ path_length t) × (path_length t ≤ k - i)
  unfolding path_length
  path_bound (by_word_rule {x = x} {e = e} {c = c} {i = i} {k = k} p q) = omega (arith, forward e i k c x q.0)
  path_bound (by_pair_rule {i = i} {j = j} {k = k} p h₁ h₂ d₁ d₂) = omega (arith, path_bound d₁, path_bound d₂)

  -- 65,535 for each node and each edge of the longest path
  module _ (light : All Light g.rules) (cheap : CheapEdges es) where
    pub forward_weight : {A : Sym} {i k : ℕ} {t : Tree} → Derives g es A i k t → weight g es t + 65535 ≤ 196605 * (k - i)
    unfolding rule_weight
    forward_weight (by_word_rule {x = x} {r = r} {e = e} {c = c} {i = i} {k = k} p q) =
        rw (leaf_weight g es r e p q) (omega (arith, forward e i k c x q.0, all_at Light g.rules r light p, cheap e i k c x q.0))
    forward_weight (by_pair_rule {r = r} {i = i} {j = j} {k = k} {s = s} {t = t} p h₁ h₂ d₁ d₂) =
        rw (node_weight_lem g es r j s t p) (omega (arith, all_at Light g.rules r light p, forward_weight d₁, forward_weight d₂))

  -- less than 65,535 for each edge of the longest path
  pub forward_costs : {A : Sym} {i k : ℕ} {t : Tree} → Derives g es A i k t → cost_sum es t ≤ 65534 * (k - i)
  unfolding cost_sum edge_cost
  forward_costs (by_word_rule {x = x} {e = e} {c = c} {i = i} {k = k} p q) = rw q.0 (omega (arith, forward e i k c x q.0, q.1))
  forward_costs (by_pair_rule {i = i} {j = j} {k = k} p h₁ h₂ d₁ d₂) = omega (arith, forward_costs d₁, forward_costs d₂)

pub walk_path : (t : Tree) → suc (length (walk t)) ≡ 2 * path_length t
unfolding walk path_length
walk_path (leaf r e) = refl
walk_path (node r j s t) = omega (arith, walk_path s, walk_path t, length-append (walk s) (walk t))
