-- The refusals are of the rows grammar block and utterance block, then 59 and 22.
use mathlib.Core.Path.{◌≡◌, refl}
use mathlib.Core.Logic.{inl, inr}
use mathlib.Core.List.{List}
use Prim.Native.Nat.{ℕ}
use lib.Dec.{ltb}
use lib.ListN.{length}
use Rattle.packing.specs.Meaning.{Grammar, Utterance}
use Rattle.packing.specs.Parse.{Verdict, accepted, ◌then◌}
use Rattle.packing.specs.Grammar.{grammar_block}
use Rattle.packing.specs.Utterance.{utterance_block}
use Rattle.packing.specs.Rows.{◌∪◌, GrammarBlockRow, UtteranceBlockRow, RangesRow}
use Rattle.packing.proofs.Refusals.{Refuses, granted, denied, wider, then_row, choose_row, grammar_block_row, utterance_block_row}
use Rattle.cost_changes.specs.Ranges.{rises, Answer}
use Rattle.cost_changes.specs.Passes.{answer}
use Rattle.chart.specs.WorkTable.{table_size}
use Rattle.inputs.proofs.Due.{then_within}
use Rattle.cost_ranges.specs.Conditions.{ranges_conditions, asked_ranges}
use Rattle.cost_ranges.specs.CostRanges.{ranged, ranges}

asked_ranges_row : (grammar low high : List ℕ) (work : ℕ)
    → Refuses (GrammarBlockRow ∪ UtteranceBlockRow ∪ RangesRow) (asked_ranges grammar low high work)
unfolding asked_ranges ranges_conditions
asked_ranges_row grammar low high work =
    then_row (wider (λ n r. inl (inl r)) (grammar_block_row grammar)) λ g e.
    then_row (wider (λ n r. inl (inr r)) (utterance_block_row g.words low)) λ u f.
    then_row (wider (λ n r. inl (inr r)) (utterance_block_row g.words high)) λ v k.
    choose_row (rises u v) (choose_row (ltb work (table_size g.symbols (length u) 1)) (denied {n = 22} (inr (inr refl))) granted)
    (denied {n = 59} (inr (inl refl)))

-- what is due is made of what is asked
pub ranges_asked : (grammar low high : List ℕ) (work : ℕ)
    → ranges grammar low high work ≡ (asked_ranges grammar low high work then λ b. accepted (answer b.0 b.1 b.2))
unfolding ranges ranged asked_ranges
ranges_asked grammar low high work =
    then_within (grammar_block grammar) (λ g. utterance_block g.words low then λ u. utterance_block g.words high then λ v. ranges_conditions g u v work) found
    λ g.
    then_within (utterance_block g.words low) (λ u. utterance_block g.words high then λ v. ranges_conditions g u v work) found λ u.
    then_within (utterance_block g.words high) (λ v. ranges_conditions g u v work) found λ v. refl
  where
    found : Grammar × Utterance × Utterance → Verdict Answer
    found b = accepted (answer b.0 b.1 b.2)

pub ranges_row : (grammar low high : List ℕ) (work : ℕ) → Refuses (GrammarBlockRow ∪ UtteranceBlockRow ∪ RangesRow) (ranges grammar low high work)
ranges_row grammar low high work = rw (ranges_asked grammar low high work) (then_row (asked_ranges_row grammar low high work) λ b e. granted)
