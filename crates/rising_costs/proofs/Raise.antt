-- The loop over the nodes of a tree: what remains behind the first i nodes raises the rest of the costs, and weighs the rest.
use mathlib.Core.Path.{◌≡◌, refl, sym, ap, ◌∙◌}
use mathlib.Core.List.{List, ◌∷◌, ◌++◌}
use mathlib.Core.Option.{some}
use Prim.Native.Nat.{ℕ, ◌+◌, ◌*◌, ◌<◌}
use native.Mathlib.Omega.{arith}
use lib.ListN.{length, get_or, set}
use Rattle.packing.specs.declared.Sym.{Sym}
use Rattle.packing.specs.declared.Word as W
use Rattle.packing.specs.declared.Rule.{Rule}
use Rattle.packing.specs.declared.Rule.TheVariants.{Pair, Word}
use Rattle.packing.specs.Meaning.{Node}
use Rattle.packing.specs.Flat.{rule_at, node_by, nodes_in}
use Rattle.derivation.specs.Derivation.{rule_weight}
use Rattle.one_best.proofs.Trace.{nodes_more, nodes_end}
use Rattle.rising_costs.specs.Model.{raise_node, node_weight, raise_nodes, nodes_weight}

-- the ways out of one node
module _ (rules high costs : List ℕ) (r e : ℕ) {x : Rule} {i : ℕ} (found : x ≡ rule_at rules i) (same : i ≡ r) where
  rule_is : rule_at rules r ≡ x
  rule_is = sym (found ∙ ap (rule_at rules) same)

  weighs : {w : ℕ} → rule_weight (some x) ≡ w → w ≡ rule_weight (some (rule_at rules r))
  weighs e = rw rule_is (sym e)

  pub pair_node : {a b c : Sym} {w : ℕ} → x ≡ Pair a b c w → {v : ℕ} → v ≡ w
      → (costs ≡ raise_node high costs (node_by (rule_at rules r) r e)) × (v ≡ node_weight rules high (node_by (rule_at rules r) r e))
  unfolding rule_weight
  pair_node {w = w} p q = let own = weighs {w = w} (rw p) in rw (rule_is, p) (refl, q ∙ own)

  pub word_node : {a : Sym} {y : W.Word} {w : ℕ} → x ≡ Word a y w → {k cost v v' : ℕ} {after : List ℕ} → k ≡ e → cost ≡ get_or high (4 * k + 3) 0
      → after ≡ set costs (4 * k + 3) cost → v ≡ w → v' ≡ cost
      → (after ≡ raise_node high costs (node_by (rule_at rules r) r e)) × (v + v' ≡ node_weight rules high (node_by (rule_at rules r) r e))
  unfolding rule_weight
  word_node {w = w} p {v = v} {v' = v'} ek ec es ev ev' =
      let own : v ≡ rule_weight (some (rule_at rules r)) = ev ∙ weighs {w = w} (rw p) in
      let sum : v + v' ≡ rule_weight (some (rule_at rules r)) + get_or high (4 * e + 3) 0 = rw (own, ev', ec, ek) in
      rw (rule_is, p) (es ∙ rw (ec, ek), sum)

-- the ways out of the loop over the numbers of a trace
module _ (rules high : List ℕ) (all : List Node) (costs₀ : List ℕ) where
  -- costs so far with the nodes of the numbers that are left raised are those with all raised, and so for weights
  pub record Remains (left costs : List ℕ) (own : ℕ) : Type 0 where
    pub raised : raise_nodes high costs (nodes_in rules left) ≡ raise_nodes high costs₀ all
    pub weighs : own + nodes_weight rules high (nodes_in rules left) ≡ nodes_weight rules high all

  pub next_remain : (left x left' : List ℕ) {costs costs' : List ℕ} {own w : ℕ} → left ≡ x ++ left' → length x ≡ 2
      → costs' ≡ raise_node high costs (node_by (rule_at rules (get_or x 0 0)) (get_or x 0 0) (get_or x 1 0))
      → w ≡ node_weight rules high (node_by (rule_at rules (get_or x 0 0)) (get_or x 0 0) (get_or x 1 0))
      → Remains left costs own → Remains left' costs' (own + w)
  unfolding raise_nodes nodes_weight
  next_remain left x left' cut two e f s =
      let more : nodes_in rules left ≡ node_by (rule_at rules (get_or x 0 0)) (get_or x 0 0) (get_or x 1 0) ∷ nodes_in rules left' =
      rw cut (nodes_more rules x left' two) in
      let a = rw more at s.raised in
      let b = rw more at s.weighs in
      record { raised = rw e a; weighs = omega arith }

  pub none_remain : (left : List ℕ) {costs : List ℕ} {own : ℕ} → length left < 2 → Remains left costs own
      → (costs ≡ raise_nodes high costs₀ all) × (own ≡ nodes_weight rules high all)
  unfolding raise_nodes nodes_weight
  none_remain left less s =
      let a = rw (nodes_end rules left less) at s.raised in
      let b = rw (nodes_end rules left less) at s.weighs in
      (a, omega arith)
