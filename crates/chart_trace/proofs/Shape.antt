-- The shape of a trace, whatever the table holds: two numbers for each of 2 m − 1 nodes, m being no more than the span has places, and of
-- these nodes at most m are by a word rule. For a node with two parts is by a pair rule.
use mathlib.Core.Path.{◌≡◌, refl, sym}
use mathlib.Core.Bool.{Bool, true, false}
use mathlib.Core.List.{List, [], ◌∷◌, ◌++◌, append_assoc}
use Prim.Native.Nat.{ℕ, zero, suc, ◌+◌, ◌-◌, ◌*◌, ◌≤◌, ◌<◌}
use native.Mathlib.Omega.{arith}
use lib.Dec.{ltb}
use lib.ListN.{length, length-append}
use Rattle.bits.specs.Bits.{pick}
use Rattle.packing.specs.Meaning.{Node}
use Rattle.packing.specs.Flat.{rule_at, node_by, nodes_in}
use Rattle.packing.specs.GraphReading.{word_nodes}
use Rattle.packing.specs.declared.Sym.{Sym}
use Rattle.packing.specs.declared.Rule.{Rule}
use Rattle.packing.specs.declared.Rule.TheVariants.{Pair, Word}
use Rattle.chart_keys.specs.declared.BackPointer.{BackPointer}
use Rattle.chart_table.specs.declared.Cell.{Cell}
use Rattle.chart_table.specs.declared.Layout.{Layout}
use Rattle.chart_table.specs.Table.{left_part, right_part}
use Rattle.chart_trace.specs.Trace.{trace_parts, trace_back}
use Rattle.chart_trace.proofs.Trace.{no_parts, rule_within, pair_within, back_of, trace_suc}

-- a rule that has parts is the one that the number says
pair_rule_lem : (rules : List ℕ) (c : Cell) (b : BackPointer) {h x y : Sym} {w : ℕ} → rule_within rules c b ≡ Pair h x y w
    → rule_at rules b.rule ≡ Pair h x y w
pair_rule_lem rules c b {h} {x} {y} {w} = go (ltb c.from b.split) (ltb b.split c.to)
  where
    go : (s s' : Bool) → pick s (pick s' (rule_at rules b.rule) no_parts) no_parts ≡ Pair h x y w → rule_at rules b.rule ≡ Pair h x y w
    go true true e = e
    go true false e = let z : ◌≡◌ {A = ℕ} 0 1 = cc in absurd (omega arith)
    go false s' e = let z : ◌≡◌ {A = ℕ} 0 1 = cc in absurd (omega arith)

-- in front of whatever numbers
pub record Shape (rules l : List ℕ) (m : ℕ) : Type 0 where
  pub numbers : length l + 2 ≡ 4 * m
  pub nodes : (rest : List ℕ) → suc (length (nodes_in rules (l ++ rest))) ≡ 2 * m + length (nodes_in rules rest)
  pub words : (rest : List ℕ) → word_nodes (nodes_in rules (l ++ rest)) ≤ m + word_nodes (nodes_in rules rest)

module _ (rules : List ℕ) where
  one_word : (x : Rule) (r e : ℕ) (xs : List Node) → word_nodes (node_by x r e ∷ xs) ≤ 1 + word_nodes xs
  unfolding word_nodes
  one_word (Pair h y z w) r e xs = omega arith
  one_word (Word h y w) r e xs = omega arith

  leaf_shape : (r e : ℕ) → Shape rules (r ∷ e ∷ []) 1
  unfolding nodes_in
  leaf_shape r e = record {
    numbers = refl;
    nodes = λ rest. omega arith;
    words = λ rest. one_word (rule_at rules r) r e (nodes_in rules rest);
  }

  node_shape : (r e : ℕ) (a b : List ℕ) {m n : ℕ} {h x y : Sym} {w : ℕ} → rule_at rules r ≡ Pair h x y w → Shape rules a m → Shape rules b n
      → Shape rules (r ∷ e ∷ (a ++ b)) (m + n)
  unfolding nodes_in word_nodes
  node_shape r e a b is s t = record {
    numbers = omega (arith, length-append a b, s.numbers, t.numbers);
    nodes = λ rest. rw (append_assoc a b rest) (omega (arith, s.nodes (b ++ rest), t.nodes rest));
    words = λ rest. rw (append_assoc a b rest, is) (omega (arith, s.words (b ++ rest), t.words rest));
  }

module _ (t rules : List ℕ) (d : Layout) where
  pub shape : (f : ℕ) (c : Cell) (x : ℕ) → c.from < c.to → c.to - c.from ≤ f
      → (m : ℕ) × (m ≤ c.to - c.from) × Shape rules (trace_back t rules d f c x) m
  shape zero c x h l = absurd (omega arith)
  shape (suc f) c x h l = rw (trace_suc t rules d f c x) (go (rule_within rules c b) refl (shape f))
    where
      b : BackPointer
      b = back_of t d c x

      go : (r : Rule) → rule_within rules c b ≡ r
          → ((c : Cell) (x : ℕ) → c.from < c.to → c.to - c.from ≤ f → (m : ℕ) × (m ≤ c.to - c.from) × Shape rules (trace_back t rules d f c x) m)
          → (m : ℕ) × (m ≤ c.to - c.from) × Shape rules (b.rule ∷ b.left ∷ trace_parts (trace_back t rules d f) c b r) m
      go (Pair a y z w) e below =
          let (p, q) = pair_within rules c b (sym e) in
          let (m, few, s) = below (left_part c y b.split) b.left p (omega arith) in
          let (n, few', s') = below (right_part c z b.split) b.right q (omega arith) in
          (m + n, omega arith, node_shape rules b.rule b.left _ _ (pair_rule_lem rules c b e) s s')
      go (Word a y w) e below = (1, omega arith, leaf_shape rules b.rule b.left)
