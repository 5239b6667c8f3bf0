-- What is met with a rank found: its successors, and what replaces it in the queue.
-- Nobody need believe this page: the theorems of chart_theory join it to the derivations. Assumes nothing.
use Rattle.std.specs.Prelude.{List, ℕ, ◌+◌, ◌-◌, ltb, eqb}
use Rattle.bits.specs.Bits.{pick}
use Rattle.packing.specs.Flat.{rule_at}
use Rattle.packing.specs.declared.Rule.{Rule}
use Rattle.packing.specs.declared.Rule.TheVariants.{Pair, Word}
use Rattle.chart_keys.specs.declared.BackPointer.{BackPointer}
use Rattle.chart_keys.specs.Keys.{with_ranks, key_number, no_key, lesser}
use Rattle.chart_table.specs.declared.Cell.{Cell}
use Rattle.chart_table.specs.declared.Layout.{Layout}
use Rattle.chart_table.specs.Table.{left_part, right_part}
use Rattle.chart_tags.specs.Tags.{is_initial}
use Rattle.chart_candidates.specs.Candidates.{pair_key, leaves, seeds}
use Rattle.chart_successors.specs.declared.Found.{Found}

module _ (t : List ℕ) (d : Layout) where
  -- the key of a pairing of a rule over a cell, with the split and the ranks of a back pointer
  abbrev pub pairing : Cell → Rule → BackPointer → ℕ
  pairing c (Pair h x y w) b = pair_key t d (left_part c x b.split) (right_part c y b.split) w b
  pairing c (Word h x w) b = no_key

  -- successors of a found pairing: the next of its right part, and where that was the first, the next of its left part
  unfoldable pub pair_successors : Cell → ℕ → BackPointer → ℕ → Rule → ℕ
  pair_successors c floor b best (Pair h x y w) =
      let right = lesser floor best (pairing c (Pair h x y w) (with_ranks b b.left (b.right + 1))) in
      pick (eqb b.right 0) (lesser floor right (pairing c (Pair h x y w) (with_ranks b (b.left + 1) 0))) right
  pair_successors c floor b best (Word h x w) = best

  unfoldable pub successors : List ℕ → Cell → Found → ℕ → ℕ
  successors rules c last best =
      pick (eqb last.back.split 0) best
      (pair_successors c (key_number last.key) last.back best (rule_at rules last.back.rule))

  -- the other successor of the pairing that a successor follows, where that has two
  unfoldable pub pair_sibling : Cell → ℕ → BackPointer → Rule → ℕ
  pair_sibling c floor b (Pair h x y w) =
      pick (eqb b.right 1) (lesser floor no_key (pairing c (Pair h x y w) (with_ranks b (b.left + 1) 0)))
      (pick (eqb b.right 0)
      (pick (ltb 0 b.left) (lesser floor no_key (pairing c (Pair h x y w) (with_ranks b (b.left - 1) 1))) no_key)
      no_key)
  pair_sibling c floor b (Word h x w) = no_key

  unfoldable pub sibling : List ℕ → Cell → Found → ℕ
  sibling rules c last = pair_sibling c (key_number last.key) last.back (rule_at rules last.back.rule)

  -- the least above the floor of the candidates that follow none
  unfoldable pub least_initial : List ℕ → List ℕ → List ℕ → Cell → ℕ → ℕ
  least_initial rules edges index c floor = seeds t d rules index c floor (leaves rules edges index c floor no_key)

  -- what replaces a candidate that was found: the next that follows none, or its sibling
  unfoldable pub replacement : List ℕ → List ℕ → List ℕ → Cell → Found → ℕ
  replacement rules edges index c last =
      pick (is_initial last.back) (least_initial rules edges index c (key_number last.key)) (sibling rules c last)
