-- Two calls with rearranged rules (specs/RearrangedCalls). That the first answers shows what it was lent to suffice; the second needs as much, so
-- demand 3 says of both that they list the least derivations by rank, of which a theorem of rearranged_rules says that they are alike.
use mathlib.Core.Path.{◌≡◌, refl, sym, ap, ◌∙◌}
use mathlib.Core.List.{List}
use Prim.Native.Nat.{ℕ, ◌+◌, ◌-◌, ◌*◌, ◌≤◌, ◌<◌}
use native.Mathlib.Omega.{arith}
use lib.IntN.{ℤ, pos}
use lib.ListN.{length, length-take}
use Rattle.packing.specs.Meaning.{symbol_of, Grammar, Heard, slots, graph, last_place, heard_edges}
use Rattle.packing.specs.Parse.{accepted}
use Rattle.packing.specs.Grammar.{grammar_block}
use Rattle.packing.specs.Heard.{heard_block}
use Rattle.packing.specs.Reading.{reading_length}
use Rattle.packing.specs.GraphReading.{graph_reading_length}
use Rattle.packing.specs.Rows.{◌∪◌, GrammarBlockRow, HeardBlockRow, ListingRow}
use Rattle.packing.specs.Valid.{ValidGrammar, ValidHeard}
use Rattle.packing.proofs.Whole.{grammar_block_out}
use Rattle.packing.proofs.Heard.{heard_block_out}
use Rattle.derivation.specs.Derivation.{At, Tree, Derivation}
use Rattle.derivation.specs.Order.{cost_sum}
use Rattle.derivation.specs.Heard.{output_length, packed}
use Rattle.derivation.specs.HeardList.{derivations, least_derivations}
use Rattle.derivation.proofs.Lists.{at_length, at_take}
use Rattle.derivation.proofs.Cell.{derives_place}
use Rattle.derivation.proofs.HeardTheorems.{least_element}
use Rattle.rearranged_rules.specs.Rearranged.{Rearranged, renumber, SameRenumbered}
use Rattle.rearranged_rules.proofs.Theorems.{same_derivations, rearranged_lists}
use Rattle.rearranged_rules.proofs.Held.{weight_held_lem}
use Rattle.chart.specs.WorkTable.{table_size}
use Rattle.listing.specs.Conditions.{library, conditions, asked_listing}
use Rattle.listing.proofs.Accepted.{Asks, conditions_asks}
use Rattle.traced_readings.specs.Ranked.{Ranked}
use Rattle.listing.specs.Demand3.{kth_bytes, RankedList}
use Rattle.spireyerba.specs.Demands as D
use Rattle.codes.specs.Demand1.{Demand1, answers, refuses}
use Rattle.calls.specs.RearrangedCalls.{weight_held, Among, SameReadings, RearrangedCalls}
use Rattle.spireyerba.proofs.Small.{low_listing}
use Rattle.spireyerba.proofs.Demands.{low_code}
use Rattle.calls.proofs.TwoCalls.{found}

module _ (grammar heard : List ℕ) {g : Grammar} {h : Heard} (p : grammar_block grammar ≡ accepted g) (q : heard_block g.words heard ≡ accepted h)
    (N : ℕ) where
  -- a listing that answers was asked for from 1 to 256 readings and lent enough
  accepted_enough : (work out : ℕ) {b : Grammar × Heard} → asked_listing library grammar heard N work out ≡ accepted b → Asks g h N work out
  unfolding asked_listing
  accepted_enough work out e =
      let e₀ : conditions library g h N work out ≡ accepted _ = rw (p, q) at e in
      (conditions_asks library g h N work out e₀).0

  pub answered_enough : {work out after written : List ℕ} {m : ℕ} → D.Listing grammar heard N work out (pos m) after written
      → Asks g h N (length work) (length out)
  answered_enough {work} {out} {after} {written} {m} call = go call.demand_1 refl
    where
      go : {Answer : Grammar × Heard → ℕ → Type 0} {Unchanged : Type 0} {z : ℤ}
          → Demand1 (asked_listing library grammar heard N (length work) (length out)) Answer (GrammarBlockRow ∪ HeardBlockRow ∪ ListingRow) Unchanged z → z
          ≡ pos m
          → Asks g h N (length work) (length out)
      go (answers due a) e = accepted_enough (length work) (length out) due
      go (refuses {n} due row u) e = absurd (low_code n m (low_listing n row).0 e)

-- readings of rearranged rules are as long, and need as much
same_output : {f : ℕ → ℕ} {g g' : Grammar} → Rearranged f g g' → (h : Heard) → output_length g h ≡ output_length g' h
same_output re (slots u) = ap (reading_length (length u)) re.number
same_output re (graph x) = ap (graph_reading_length (x.places - 1)) re.number

as_much : {f : ℕ → ℕ} {g g' : Grammar} → Rearranged f g g' → (h : Heard) (N : ℕ) {work out work' out' : ℕ} → Asks g h N work out → work ≤ work'
    → out ≤ out' → Asks g' h N work' out'
as_much {g = g} {g'} re h N {work} {out} asks l l' =
    let table' : table_size g'.symbols (last_place h) N ≤ work = rw re.symbols at asks.table in
    let room' : N * output_length g' h ≤ out = rw (same_output re h) at asks.room in
    record { positive = asks.positive; few = asks.few; table = omega arith; room = omega arith }

-- the derivation with rank k stands at place k - 1 of the list
at_rank : (g : Grammar) (h : Heard) (N k : ℕ) {t : Tree} → 1 ≤ k → k ≤ N → Ranked g h k t → At (least_derivations g h N) (k - 1) t
at_rank g h N k {t} l m r =
    let (n, before, e) = r.rank in
    (least_element g h N (k - 1) t).1 (r.derivation, (n, before, omega arith), omega arith)

module _ {g : Grammar} {h : Heard} {N : ℕ} {work out : List ℕ} {AnswerIs : ℕ → Type 0} {work' out' : List ℕ}
    (call : RankedList g h N work out AnswerIs work' out') where
  -- where fewer are found than wanted, the reading of every derivation is written
  every : call.m < N → (t : Tree) → Derivation g h t → Among g h call.m out' t
  every short t d =
      let (x, e) = derives_place g (heard_edges h) (symbol_of 0) 0 (last_place h) d in
      let below : x < call.m = omega (arith, at_length (derivations g h) x e, length-take N (derivations g h), found call) in
      let (_, rank, _) = (least_element g h N x t).0 ((at_take N (derivations g h) x t).1 (e, omega arith)) in
      let (s, ranked, holds) = call.readings (1 + x) (omega arith) (omega arith) in
      (d, 1 + x, omega arith, omega arith, holds ∙ ap (packed g h) (sym (ranked.no_other t d rank)))

-- two calls
module _ {f : ℕ → ℕ} {g g' : Grammar} {h : Heard} (re : Rearranged f g g') (ok : ValidGrammar g) (ok' : ValidGrammar g')
    (valid : ValidHeard g.words h) {N : ℕ} {work out work' out' after written after' written' : List ℕ} {AnswerIs AnswerIs' : ℕ → Type 0}
    (a : RankedList g h N work out AnswerIs after written) (b : RankedList g' h N work' out' AnswerIs' after' written') where
  same_m : b.m ≡ a.m
  same_m = sym (found b) ∙ sym (rearranged_lists f g g' re h N).lengths ∙ found a

  equal_weights : (k : ℕ) → 1 ≤ k → k ≤ a.m
      → weight_held (kth_bytes (output_length g h) k written) ≡ weight_held (kth_bytes (output_length g' h) k written')
  equal_weights k l m =
      let (t, r, e) = a.readings k l m in
      let (t', r', e') = b.readings k l (rw same_m m) in
      let most : k ≤ N = omega (arith, a.m_is) in
      let same = ((rearranged_lists f g g' re h N).ranks (k - 1) (at_rank g h N k l most r) (at_rank g' h N k l most r')).0 in
      ap weight_held e ∙ weight_held_lem g h ok valid t r.derivation ∙ same
      ∙ sym (weight_held_lem g' h ok' (rw re.words at valid) t' r'.derivation) ∙ sym (ap weight_held e')

  equal_costs : (k : ℕ) (t t' : Tree) → Ranked g h k t → Ranked g' h k t' → cost_sum (heard_edges h) t ≡ cost_sum (heard_edges h) t'
  equal_costs k t t' r r' =
      let (n, _, e) = r.rank in
      let l : 1 ≤ k = omega arith in
      ((rearranged_lists f g g' re h k).ranks (k - 1) (at_rank g h k k l (omega arith) r) (at_rank g' h k k l (omega arith) r')).1

  short_readings : a.m < N → SameRenumbered f (length g.rules) (Among g h a.m written) (Among g' h a.m written')
  short_readings short =
      let all = same_derivations re h in
      let there : (t : Tree) → Derivation g' h t → Among g' h a.m written' t = rw same_m at (every b (rw same_m short)) in
      record {
        each = λ t below. ((λ o. there (renumber f t) ((all.each t below).0 o.0)), (λ o. every a short t ((all.each t below).1 o.0)));
        no_other = λ t' o. let (t, d, e) = all.no_other t' o.0 in (t, every a short t d, e);
      }

  same_readings : SameReadings f g g' h N a.m written written'
  same_readings = record { weights = equal_weights; costs = equal_costs; same = short_readings }

-- N13, of two calls.
pub rearranged_calls : RearrangedCalls
rearranged_calls f g g' h re grammar grammar' heard p p' q N m work out after written first code work' out' after' written' second l l' =
    let q' : heard_block g'.words heard ≡ accepted h = rw re.words at q in
    let enough = answered_enough grammar heard p q N first in
    let enough' = as_much re h N enough l l' in
    let a = first.demand_3 g p h q enough.positive enough.few enough.table enough.room in
    let b = second.demand_3 g' p' h q' enough'.positive enough'.few enough'.table enough'.room in
    let answer : pos m ≡ pos a.m = a.accepts in
    let is : a.m ≡ m = cc in
    let ok = (grammar_block_out grammar g p).0 in
    let ok' = (grammar_block_out grammar' g' p').0 in
    let valid = (heard_block_out g.words heard h q).0 in
    (b.accepts ∙ ap pos (same_m re ok ok' valid a b ∙ is), rw is at (same_readings re ok ok' valid a b))
