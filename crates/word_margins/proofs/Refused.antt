-- The refusals are of the rows grammar block and utterance block, then 22 and 43; and a list has an entry for each candidate at most.
use mathlib.Core.Path.{◌≡◌, refl}
use mathlib.Core.Logic.{inl, inr}
use mathlib.Core.List.{List}
use mathlib.Core.Option.{Option, none, some}
use Prim.Native.Nat.{ℕ, ◌*◌, ◌≤◌}
use native.Mathlib.Omega.{arith}
use lib.Dec.{ltb}
use lib.ListN.{length}
use Rattle.packing.specs.Meaning.{symbol_of, Grammar, Utterance, Edge, edges}
use Rattle.packing.specs.Parse.{Verdict, accepted, ◌then◌}
use Rattle.packing.specs.Grammar.{grammar_block}
use Rattle.packing.specs.Utterance.{utterance_block}
use Rattle.packing.specs.Rows.{◌∪◌, GrammarBlockRow, UtteranceBlockRow}
use Rattle.packing.specs.Valid.{ValidUtterance}
use Rattle.packing.proofs.Refusals.{Refuses, granted, denied, wider, then_row, choose_row, grammar_block_row, utterance_block_row}
use Rattle.derivation.specs.Derivation.{Tree, weight}
use Rattle.cost_changes.specs.Costs.{edges_of}
use Rattle.cost_changes.specs.Margins.{MarginEntry}
use Rattle.cost_changes.specs.Passes.{first_of}
use Rattle.cost_changes.specs.Outside.{outside}
use Rattle.cost_changes.specs.Listed.{has, listed_for, margins_of}
use Rattle.cost_changes.proofs.Listed.{listed_length}
use Rattle.chart.specs.WorkTable.{table_size}
use Rattle.inputs.proofs.Due.{then_within}
use Rattle.word_margins.specs.Conditions.{margins_conditions, MarginsRow, asked_margins}
use Rattle.word_margins.specs.WordMargins.{listed, margins}
use Rattle.word_margins.proofs.PassListed.{few_edges}

asked_margins_row : (grammar utterance : List ℕ) (work out : ℕ)
    → Refuses (GrammarBlockRow ∪ UtteranceBlockRow ∪ MarginsRow) (asked_margins grammar utterance work out)
unfolding asked_margins margins_conditions
asked_margins_row grammar utterance work out =
    then_row (wider (λ n r. inl (inl r)) (grammar_block_row grammar)) λ g e.
    then_row (wider (λ n r. inl (inr r)) (utterance_block_row g.words utterance)) λ u f.
    choose_row (ltb work (table_size g.symbols (length u) 1)) (denied {n = 22} (inr (inl refl)))
    (choose_row (ltb out (4 * length (edges u))) (denied {n = 43} (inr (inr refl))) granted)

-- what is due is made of what is asked
pub margins_asked : (grammar utterance : List ℕ) (work out : ℕ)
    → margins grammar utterance work out ≡ (asked_margins grammar utterance work out then λ b. accepted (margins_of b.0 b.1))
unfolding margins listed asked_margins
margins_asked grammar utterance work out =
    then_within (grammar_block grammar) (λ g. utterance_block g.words utterance then λ u. margins_conditions g u work out) found λ g.
    then_within (utterance_block g.words utterance) (λ u. margins_conditions g u work out) found λ u. refl
  where
    found : Grammar × Utterance → Verdict (List MarginEntry)
    found b = accepted (margins_of b.0 b.1)

pub margins_row : (grammar utterance : List ℕ) (work out : ℕ) → Refuses (GrammarBlockRow ∪ UtteranceBlockRow ∪ MarginsRow) (margins grammar utterance work out)
margins_row grammar utterance work out = rw (margins_asked grammar utterance work out) (then_row (asked_margins_row grammar utterance work out) λ b e. granted)

for_length : (g : Grammar) (n : ℕ) (es : List Edge) (t : Option Tree) → length (listed_for g n es t) ≤ length es
unfolding listed_for
for_length g n es none = omega arith
for_length g n es (some t) = listed_length g es (λ e. has e (edges_of t)) (weight g es t) (outside g es (symbol_of 0) n) (length es)

pub few_margins : (W : ℕ) (g : Grammar) (u : Utterance) → ValidUtterance W u → length (margins_of g u) ≤ 168
unfolding margins_of
few_margins W g u oku = omega (arith, few_edges W u oku, for_length g (length u) (edges u) (first_of g (edges u) (length u)))
