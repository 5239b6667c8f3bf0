-- A call that answers was asked about what its blocks mean: no refusal's number is 0, and what is due is the service's own verdict.
use mathlib.Core.Path.{◌≡◌, refl, sym, subst}
use mathlib.Core.Logic.{⊎_elim}
use mathlib.Core.Bool.{Bool, true}
use mathlib.Core.List.{List}
use Prim.Native.Nat.{ℕ, ◌*◌, ◌≤◌}
use native.Mathlib.Omega.{arith}
use lib.Dec.{ltb}
use lib.IntN.{ℤ, pos}
use lib.ListN.{length}
use Rattle.bits.specs.Bits.{pick}
use Rattle.packing.specs.Meaning.{Grammar, Utterance, edges}
use Rattle.packing.specs.Parse.{Verdict, accepted, refused}
use Rattle.packing.specs.Grammar.{grammar_block}
use Rattle.packing.specs.Utterance.{utterance_block}
use Rattle.packing.specs.Rows.{◌∪◌, GrammarBlockRow, UtteranceBlockRow, RangesRow}
use Rattle.packing.proofs.Parse.{accepted_else, accepted_is, picked_first, refused≢accepted}
use Rattle.chart.specs.WorkTable.{table_size}
use Rattle.cost_changes.specs.Ranges.{rises}
use Rattle.cost_ranges.specs.Conditions.{ranges_conditions, asked_ranges}
use Rattle.word_margins.specs.Conditions.{MarginsRow, margins_conditions, asked_margins}
use Rattle.codes.specs.Demand1.{Demand1, answers, refuses}
use Rattle.spireyerba.proofs.Demands.{low_code}

pub answered : {A : Type 0} {due : Verdict A} {Answer : A → ℕ → Type 0} {Row : ℕ → Type 0} {Unchanged : Type 0} {m : ℕ} → ((n : ℕ) → Row n → 1 ≤ n)
    → Demand1 due Answer Row Unchanged (pos m) → (a : A) × (due ≡ accepted a) × Answer a m
answered {A} {due} {Answer} {Row} {Unchanged} {m} low call = go call refl
  where
    go : {z : ℤ} → Demand1 due Answer Row Unchanged z → z ≡ pos m → (a : A) × (due ≡ accepted a) × Answer a m
    go (answers {a} {n} p x) e = let same : n ≡ m = cc in (a, p, subst (Answer a) same x)
    go (refuses {n} p row u) e = absurd (low_code n m (low n row) e)

-- the words to listen to again
pub low_margins : (n : ℕ) → (GrammarBlockRow ∪ UtteranceBlockRow ∪ MarginsRow) n → 1 ≤ n
low_margins n =
    ⊎_elim (⊎_elim (λ r. omega (arith, r)) (λ r. omega (arith, r))) (⊎_elim (λ r. omega (arith, r)) (λ r. omega (arith, r)))

pub asked_margins_lem : (grammar utterance : List ℕ) {g : Grammar} {u : Utterance} → grammar_block grammar ≡ accepted g
    → utterance_block g.words utterance ≡ accepted u → (work out : ℕ) {b : Grammar × Utterance} → asked_margins grammar utterance work out ≡ accepted b
    → b ≡ (g, u)
unfolding asked_margins margins_conditions
asked_margins_lem grammar utterance {g} {u} p q work out {b} e =
    let e₀ : margins_conditions g u work out ≡ accepted b = rw (p, q) at e in
    let (_, e₁) = accepted_else (ltb work (table_size g.symbols (length u) 1)) 22 _ e₀ in
    sym (accepted_is (accepted_else (ltb out (4 * length (edges u))) 43 (accepted (g, u)) e₁).1)

-- costs known within ranges
pub low_ranges : (n : ℕ) → (GrammarBlockRow ∪ UtteranceBlockRow ∪ RangesRow) n → 1 ≤ n
low_ranges n = ⊎_elim (⊎_elim (λ r. omega (arith, r)) (λ r. omega (arith, r))) (⊎_elim (λ r. omega (arith, r)) (λ r. omega (arith, r)))

pub asked_ranges_lem : (grammar low high : List ℕ) {g : Grammar} {u v : Utterance} → grammar_block grammar ≡ accepted g
    → utterance_block g.words low ≡ accepted u → utterance_block g.words high ≡ accepted v
    → (work : ℕ) {b : Grammar × Utterance × Utterance} → asked_ranges grammar low high work ≡ accepted b → (b ≡ (g, u, v)) × (rises u v ≡ true)
unfolding asked_ranges ranges_conditions
asked_ranges_lem grammar low high {g} {u} {v} p q r work {b} e =
    let e₀ : ranges_conditions g u v work ≡ accepted b = rw (p, q, r) at e in
    let table : Bool = ltb work (table_size g.symbols (length u) 1) in
    let (risen, e₁) = picked_first (rises u v) (pick table (refused 22) (accepted (g, u, v))) (refused 59) refused≢accepted e₀ in
    (sym (accepted_is (accepted_else table 22 (accepted (g, u, v)) e₁).1), risen)
