-- A pass over an utterance finds its first derivation, if there is one (chart_theory).
use mathlib.Core.Path.{◌≡◌, refl, sym, ◌∙◌}
use mathlib.Core.Option.{none, some}
use mathlib.Core.List.{List, [], ◌∷◌}
use Prim.Native.Nat.{ℕ, ◌≤◌}
use native.Mathlib.Nat.{le_refl}
use native.Mathlib.Omega.{arith}
use lib.ListN.{length, take, replicate}
use Rattle.packing.specs.Meaning.{Grammar, Utterance, edges, slots}
use Rattle.packing.specs.Flat.{Begins, rule_numbers, edge_numbers}
use Rattle.packing.specs.Valid.{ValidGrammar, ValidUtterance}
use Rattle.derivation.specs.Derivation.{Tree, weight}
use Rattle.derivation.specs.HeardList.{derivations}
use Rattle.derivation.proofs.Lists.{at_take}
use Rattle.cost_changes.specs.Costs.{First}
use Rattle.cost_changes.specs.Passes.{first_of, weight_of}
use Rattle.cost_changes.proofs.First.{place_first, first_place}
use Rattle.chart_table.specs.Table.{clear}
use Rattle.chart.specs.Chart.{roots_found}
use Rattle.chart.specs.WorkTable.{table_size}
use Rattle.chart_theory.proofs.Accepted.{HoldsRank, Holds, layout, chart_holds}
use Rattle.one_best.specs.Model.{table_by, weight_by}
use Rattle.one_best.specs.declared.Pass.{Pass}

-- a list of one at most
first_none : {A : Type 0} (l : List A) → length (take 1 l) ≡ 0 → l ≡ []
first_none [] e = refl
first_none (x ∷ l) e = absurd (omega arith)

-- what a pass over an utterance is over
abbrev pub pass_of : Grammar → Utterance → Pass
pass_of g u = record { rules = length g.rules; edges = length (edges u); table = layout g (slots u) 1 }

-- one pass over an utterance whose edges are in an array
module _ (g : Grammar) (okg : ValidGrammar g) (rules : List ℕ) (has_rules : Begins (rule_numbers g) rules) (size : ℕ) where
  module _ (u : Utterance) (oku : ValidUtterance g.words u) (array : List ℕ) (has-edges : Begins (edge_numbers (edges u)) array)
      (room : table_size g.symbols (length u) 1 ≤ size) where
    abbrev table : List ℕ
    table = table_by rules array (pass_of g u) size

    holds : Holds g (slots u) 1 rules table (roots_found table (layout g (slots u) 1))
    unfolding table_size
    holds = chart_holds g (slots u) 1 okg oku (le_refl 1) (omega arith) rules array has_rules has-edges size room

    pub pass_none : roots_found table (layout g (slots u) 1) ≡ 0 → first_of g (edges u) (length u) ≡ none
    pass_none e = let z = first_none (derivations g (slots u)) (holds.number ∙ e) in rw z

    pub pass_some : ¬ (roots_found table (layout g (slots u) 1) ≡ 0) → (z : Tree) × First g u z × HoldsRank g (slots u) 1 rules table 0 z
    pass_some n =
        let (z, rank) = holds.each 0 (omega arith) in
        (z, place_first g u ((at_take 1 (derivations g (slots u)) 0 z).0 rank.place).0, rank)

    pub pass_clears : clear table (layout g (slots u) 1) ≡ replicate (length table) 0
    pass_clears = holds.clears

    pub pass_weight_lem : {s : Tree} → First g u s → weight_by rules array (pass_of g u) size ≡ weight_of g (edges u) (first_of g (edges u) (length u))
    pass_weight_lem f =
        let p = first_place g u f in
        let n : ¬ (roots_found table (layout g (slots u) 1) ≡ 0) = λ e. none_first (sym (pass_none e) ∙ p) in
        let (z, first, rank) = pass_some n in
        rank.has.weighs ∙ first_weighs z first
      where
        first_weighs : (z : Tree) → First g u z → weight g (edges u) z ≡ weight_of g (edges u) (first_of g (edges u) (length u))
        first_weighs z first = rw (first_place g u first)

        none_first : {t : Tree} → none ≡ some t → ⊥
        none_first e = let z : ◌≡◌ {A = ℕ} 0 1 = cc in omega arith
