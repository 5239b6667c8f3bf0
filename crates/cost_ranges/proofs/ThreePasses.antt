-- What the passes answer is the definition's answer: each pass finds the first derivation for its costs (chart_theory), and the mixed costs are
-- those of an utterance, a choice between both.
use mathlib.Core.Path.{◌≡◌, refl, sym, ap, ◌∙◌}
use mathlib.Core.Bool.{Bool, true, false}
use mathlib.Core.List.{List}
use Prim.Native.Nat.{ℕ, ◌≤◌}
use native.Mathlib.Decide.{ℕ_discrete}
use lib.Dec.{eqb}
use lib.ListN.{length, replicate}
use borrow.Author.Tests.{eq-eqb, ne_eqb}
use Rattle.bits.specs.Bits.{pick}
use Rattle.packing.specs.Meaning.{Grammar, Utterance, edges, slots}
use Rattle.packing.specs.Flat.{Begins, rule_numbers, edge_numbers}
use Rattle.packing.specs.Valid.{ValidGrammar, ValidUtterance}
use Rattle.derivation.specs.Derivation.{Tree, weight}
use Rattle.cost_changes.specs.Costs.{edges_of, First}
use Rattle.cost_changes.specs.Ranges.{rises, outweighed, stands}
use Rattle.cost_changes.specs.Passes.{first_of, weight_of, raised, answer_of, answer}
use Rattle.cost_changes.proofs.First.{first_place, derives_first}
use Rattle.cost_changes.proofs.Raised.{own_high}
use Rattle.cost_changes.proofs.Utterances.{risen_length}
use Rattle.cost_changes.proofs.Valid.{risen_valid, risen_edges}
use Rattle.cost_changes.proofs.Theorems.{risen_derives}
use Rattle.chart_table.specs.Table.{clear}
use Rattle.chart_theory.proofs.Accepted.{HoldsRank}
use Rattle.chart.specs.WorkTable.{table_size}
use Rattle.one_best.proofs.Found.{pass_of, pass_none, pass_some, pass_clears, pass_weight_lem}
use Rattle.cost_ranges.specs.CostRanges.{answered}
use Rattle.one_best.specs.Model.{table_by, weight_by}
use Rattle.rising_costs.specs.Model.{nodes_weight}
use Rattle.cost_ranges.specs.Model.{found, first_nodes, mixed, passed, left_by}
use Rattle.one_best.specs.declared.Pass.{Pass}
use Rattle.cost_ranges.specs.declared.Ranged.TheVariants.{Outweighed, Stands}
use Rattle.rising_costs.proofs.Flat.{raise_tree, tree_weight}

-- where one utterance rises to another, it is the same
pub pass_same : (g : Grammar) (u v : Utterance) → rises u v ≡ true → pass_of g u ≡ pass_of g v
pass_same g u v e = rw (risen_length u v e, risen_edges u v e)

module _ (g : Grammar) (okg : ValidGrammar g) (rules : List ℕ) (has_rules : Begins (rule_numbers g) rules) (size : ℕ) where
  -- all passes
  module _ (low : Utterance) (room : table_size g.symbols (length low) 1 ≤ size) where
    -- a pass over another utterance that low rises to
    module _ (v : Utterance) (okv : ValidUtterance g.words v) (risen : rises low v ≡ true) (array : List ℕ) (has : Begins (edge_numbers (edges v)) array)
      where
        room_too : table_size g.symbols (length v) 1 ≤ size
        room_too = rw (risen_length low v risen) at room

        other_weight : {s : Tree} → First g low s → weight_by rules array (pass_of g low) size ≡ weight_of g (edges v) (first_of g (edges v) (length low))
        other_weight first =
            let (t, f) = derives_first g v (risen_derives g low v risen first.derivation) in
            ap (λ (p : Pass). weight_by rules array p size) (pass_same g low v risen) ∙ pass_weight_lem g okg rules has_rules size v okv array has room_too f
            ∙ ap (λ (n : ℕ). weight_of g (edges v) (first_of g (edges v) n)) (sym (risen_length low v risen))

        other_clears : (k : ℕ) × (clear (table_by rules array (pass_of g low) size) (pass_of g low).table ≡ replicate k 0)
        other_clears = (
          length (table_by rules array (pass_of g v) size),
          ap (λ (p : Pass). clear (table_by rules array p size) p.table) (pass_same g low v risen)
              ∙ pass_clears g okg rules has_rules size v okv array has room_too,
        )

    module _ (high : Utterance) (okl : ValidUtterance g.words low) (okh : ValidUtterance g.words high) (risen : rises low high ≡ true)
        (low-array high-array : List ℕ) (has-low : Begins (edge_numbers (edges low)) low-array) (has-high : Begins (edge_numbers (edges high)) high-array) where
      abbrev given : {X : Type 0} → (List ℕ → List ℕ → List ℕ → Pass → ℕ → X) → X
      given f = f rules low-array high-array (pass_of g low) size

      picked : (b : Bool) (w v : ℕ) → pick b (Stands (record { least = w; greatest = v })) (Outweighed (record { least = w; greatest = v }))
          ≡ answered (pick b (stands w v) (outweighed w v))
      picked true w v = refl
      picked false w v = refl

      mixed_has : (z : Tree) → First g low z → HoldsRank g (slots low) 1 rules (table_by rules low-array (pass_of g low) size) 0 z
          → (m : Utterance) → edges m ≡ raised (edges_of z) (edges low) (edges high) → Begins (edge_numbers (edges m)) (given mixed)
      mixed_has z first rank m is =
          let n = risen_edges low high risen in
          rw (is, rank.has.nodes) (raise_tree (edges high) high-array has-high g (edges low) n first.derivation (edges low) low-array n has-low)

      pub passed_answer : given passed ≡ answered (answer g low high)
      unfolding answer answer_of
      passed_answer = go (ℕ_discrete (given found) 0)
        where
          go : Dec (given found ≡ 0) → given passed ≡ answered (answer g low high)
          go (yes e) = rw (eq-eqb (given found) 0 e, pass_none g okg rules has_rules size low okl low-array has-low room e)
          go (no n) =
              let (z, first, rank) = pass_some g okg rules has_rules size low okl low-array has-low room n in
              let (m, o, is) = own_high low high risen z in
              let lengths = risen_edges low high risen in
              let own : nodes_weight rules high-array (given first_nodes) ≡ weight g (edges high) z =
              rw rank.has.nodes (tree_weight (edges high) high-array has-high g rules has_rules (edges low) lengths first.derivation) in
              let greatest = other_weight high okh risen high-array has-high first in
              let lightest = other_weight m (risen_valid g.words m high o.choice.below okh) o.choice.above (given mixed)
              (mixed_has z first rank m is) first in
              rw (ne_eqb (given found) 0 n, own, greatest, lightest, rank.has.weighs, first_place g low first, ← is)
              (picked (eqb (weight g (edges high) z) (weight_of g (edges m) (first_of g (edges m) (length low)))) (weight g (edges low) z)
              (weight_of g (edges high) (first_of g (edges high) (length low))))

      pub left_zeros : (k : ℕ) × (given left_by ≡ replicate k 0)
      left_zeros = go (ℕ_discrete (given found) 0)
        where
          go : Dec (given found ≡ 0) → (k : ℕ) × (given left_by ≡ replicate k 0)
          go (yes e) = (
            length (table_by rules low-array (pass_of g low) size),
            rw (eq-eqb (given found) 0 e) (pass_clears g okg rules has_rules size low okl low-array has-low room),
          )
          go (no n) =
              let (z, first, rank) = pass_some g okg rules has_rules size low okl low-array has-low room n in
              let (m, o, is) = own_high low high risen z in
              let (k, zeros) = other_clears m (risen_valid g.words m high o.choice.below okh) o.choice.above (given mixed)
              (mixed_has z first rank m is) in
              (k, rw (ne_eqb (given found) 0 n) zeros)
