-- The loop that marks the edges of nodes: those marked make up the whole with the nodes of the numbers that are left.
use mathlib.Core.Path.{◌≡◌}
use mathlib.Core.List.{List, ◌∷◌, ◌++◌}
use Prim.Native.Nat.{ℕ, ◌<◌}
use lib.ListN.{length, get_or}
use Rattle.packing.specs.Flat.{rule_at, node_by, nodes_in}
use Rattle.one_best.proofs.Trace.{nodes_more, nodes_end}
use Rattle.word_margins.specs.Model.{use_node, use_nodes}

module _ (rules : List ℕ) where
  pub next_used : (left x left' used : List ℕ) {used' all : List ℕ} → left ≡ x ++ left' → length x ≡ 2
      → used' ≡ use_node used (node_by (rule_at rules (get_or x 0 0)) (get_or x 0 0) (get_or x 1 0))
      → use_nodes used (nodes_in rules left) ≡ all → use_nodes used' (nodes_in rules left') ≡ all
  unfolding use_nodes
  next_used left x left' used cut two e h =
      let more : nodes_in rules left ≡ node_by (rule_at rules (get_or x 0 0)) (get_or x 0 0) (get_or x 1 0) ∷ nodes_in rules left' =
      rw cut (nodes_more rules x left' two) in
      rw e (rw more at h)

  pub none_used : (left used : List ℕ) {all : List ℕ} → length left < 2 → use_nodes used (nodes_in rules left) ≡ all → used ≡ all
  unfolding use_nodes
  none_used left used less h = rw (nodes_end rules left less) at h
