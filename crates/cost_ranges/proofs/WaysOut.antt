-- What each way out of the service says of the definition: a refusal changes nothing, and what the passes answer is what is due.
use mathlib.Core.Path.{◌≡◌, refl, sym, subst, ap, ◌∙◌}
use mathlib.Core.Bool.{Bool, true, false}
use mathlib.Core.List.{List}
use Prim.Native.Nat.{ℕ, ◌≤◌, ◌<◌}
use native.Mathlib.Omega.{arith}
use lib.Dec.{ltb}
use lib.ListN.{length, replicate, length-replicate}
use borrow.Author.Tests.{lt-ltb, le-ltb}
use Rattle.bits.specs.Bits.{pick}
use Rattle.packing.specs.Meaning.{Grammar, Utterance, Heard, slots, heard_edges, edges}
use Rattle.packing.specs.Parse.{Verdict, accepted, refused, ◌then◌}
use Rattle.packing.specs.Flat.{Begins, rule_numbers, edge_numbers}
use Rattle.packing.specs.Grammar.{grammar_block}
use Rattle.packing.specs.Utterance.{utterance_block}
use Rattle.packing.specs.Heard.{as_slots}
use Rattle.packing.proofs.Parse.{granted, accepted_else, accepted_is, picked_first, refused≢accepted}
use Rattle.packing.proofs.Whole.{grammar_block_out, utterance_block_out}
use Rattle.cost_changes.specs.Ranges.{rises, Answers}
use Rattle.cost_changes.specs.Passes.{answer}
use Rattle.cost_changes.proofs.Theorems.{answer_sound}
use Rattle.heard_reader.specs.Answer.{heard_size}
use Rattle.heard_reader.specs.declared.HeardSize.{HeardSize}
use Rattle.inputs.specs.Inputs.{both, inputs_of, meant_by, ReadOf}
use Rattle.inputs.specs.declared.Inputs.{Inputs}
use Rattle.inputs.proofs.BlocksRead.{rules_begin, edges_begin}
use Rattle.inputs.proofs.Slots as I
use Rattle.chart_table.specs.declared.Layout.{Layout}
use Rattle.chart.specs.Chart.{lay_out}
use Rattle.chart.specs.WorkTable.{table_size}
use Rattle.cost_ranges.specs.Conditions.{ranges_conditions, asked_ranges}
use Rattle.cost_ranges.specs.CostRanges.{answered, ranged, ranges, Meant}
use Rattle.cost_ranges.specs.Model.{passed, left_by, Promised, AlikeRanged}
use Rattle.one_best.specs.declared.Pass.{Pass}
use Rattle.cost_ranges.specs.declared.Ranged.{Ranged}
use Rattle.std.specs.Prelude.{Result, Ok, Err}
use Rattle.packing.specs.Read.{as_verdict}
use Rattle.packing.specs.Refusal.{number}
use Rattle.packing.specs.declared.refusal.Refusal.{Refusal}
use Rattle.packing.specs.declared.refusal.Refusal.TheVariants.{ListingWork, CostRanges}
use Rattle.packing.specs.Valid.{ValidGrammar, ValidUtterance}
use Rattle.one_best.proofs.Found.{pass_of}
use Rattle.cost_ranges.proofs.ThreePasses.{passed_answer, left_zeros}
use Rattle.rising_costs.specs.Model.{both_rise}
use Rattle.rising_costs.proofs.Rise.{both_rise_lem}

-- what is all zeros and has kept its length
zeros_kept : (work : List ℕ) {work' : List ℕ} (k : ℕ) → work' ≡ replicate k 0 → length work' ≡ length work → work' ≡ replicate (length work) 0
zeros_kept work k e n = e ∙ ap (λ (m : ℕ). replicate m 0) (sym (length-replicate k 0) ∙ ap length (sym e) ∙ n)

-- where the edges are alike but for rising costs
module _ (rules : List ℕ) (z : Inputs) (low high work : List ℕ) where
  pub alike_short : length work < table_size z.sizes.symbols z.heard.last 1 → AlikeRanged rules z low high work (Err ListingWork) work
  unfolding ranged ranges_conditions
  alike_short short g u v okg oku okv ez begun begun' begun'' risen =
      let short' : length work < table_size g.symbols (length u) 1 = rw ez at short in
      rw (risen, lt-ltb _ _ short') (refl, refl)

  pub alike_passed : table_size z.sizes.symbols z.heard.last 1 ≤ length work → {d : Layout} → d ≡ lay_out z.sizes.symbols z.heard.last 1 → {r : Ranged}
      → {work' : List ℕ}
      → r ≡ passed rules low high (record { rules = z.sizes.rules; edges = z.heard.edges; table = d }) (length work)
      → work' ≡ left_by rules low high (record { rules = z.sizes.rules; edges = z.heard.edges; table = d }) (length work) → length work' ≡ length work
      → AlikeRanged rules z low high work (Ok r) work'
  unfolding ranged ranges_conditions
  alike_passed room {d} ed er ew kept g u v okg oku okv ez begun begun' begun'' risen =
      let room' : table_size g.symbols (length u) 1 ≤ length work = rw ez at room in
      let is : ◌≡◌ {A = Pass} (record { rules = z.sizes.rules; edges = z.heard.edges; table = d }) (pass_of g u) = rw (ed, ez) in
      let (k, zeros) = left_zeros g okg rules begun (length work) u room' v oku okv risen low high begun' begun'' in
      rw (risen, le-ltb _ _ room') (
        ap accepted (er ∙ ap (λ (p : Pass). passed rules low high p (length work)) is
            ∙ passed_answer g okg rules begun (length work) u room' v oku okv risen low high begun' begun''),
        zeros_kept work k (ew ∙ ap (λ (p : Pass). left_by rules low high p (length work)) is ∙ zeros) kept,
      )

-- what a block read as slots says of it as an utterance
slots_out : (W : ℕ) (s : List ℕ) {h : Heard} → as_slots W s ≡ accepted h → (u : Utterance) × (utterance_block W s ≡ accepted u) × (h ≡ slots u)
slots_out W s {h} = go (utterance_block W s) refl
  where
    go : (v : Verdict Utterance) → utterance_block W s ≡ v → (v then λ u. accepted (slots u)) ≡ accepted h
        → (u : Utterance) × (utterance_block W s ≡ accepted u) × (h ≡ slots u)
    go (accepted u) e a = let same : h ≡ slots u = cc in (u, e, same)
    go (refused n) e a = let z : ◌≡◌ {A = ℕ} 0 1 = cc in absurd (omega arith)

slots_refused : (W : ℕ) (s : List ℕ) {n : ℕ} → as_slots W s ≡ refused n → utterance_block W s ≡ refused n
slots_refused W s {n} = go (utterance_block W s) refl
  where
    go : (v : Verdict Utterance) → utterance_block W s ≡ v → (v then λ u. accepted (slots u)) ≡ refused n → utterance_block W s ≡ refused n
    go (accepted u) e a = let z : ◌≡◌ {A = ℕ} 0 1 = cc in absurd (omega arith)
    go (refused m) e a = let same : m ≡ n = cc in e ∙ ap refused same

-- a block under the sizes that were read
words_of : (z : Inputs) (g : Grammar) (u : Utterance) → z ≡ inputs_of (both g (slots u)) → (s : List ℕ)
    → utterance_block g.words s ≡ utterance_block z.sizes.words s
words_of z g u ez s = sym (ap (λ (x : Inputs). utterance_block x.sizes.words s) ez)

-- where all blocks are given
module _ (grammar low high work : List ℕ) where
  pub not_read : (r : Refusal) → meant_by as_slots grammar low ≡ refused (number r)
      → Promised (ranges grammar low high (length work)) work (Err r) work
  unfolding ranges
  not_read r e = rw (I.slots_refused grammar low (λ g u. utterance_block g.words high then λ v. ranged g u v (length work)) e) (refl, refl)

  -- where the grammar and the low block are read
  module _ {rules₀ edges₀ : List ℕ} {z : Inputs} {rules array : List ℕ} (k : ReadOf as_slots grammar low rules₀ edges₀ z rules array) where
    read : (r : Result Ranged Refusal) {work' : List ℕ}
        → ((g : Grammar) (u : Utterance) → ValidGrammar g → ValidUtterance g.words u → z ≡ inputs_of (both g (slots u)) → Begins (rule_numbers g) rules
        → Begins (edge_numbers (edges u)) array → Promised (utterance_block g.words high then λ v. ranged g u v (length work)) work r work')
        → Promised (ranges grammar low high (length work)) work r work'
    unfolding ranges
    read r due =
        let g = k.meant.grammar in
        let (u, is, same) = I.slots_read k in
        rw (k.grammar_is, is)
        (due g u (grammar_block_out grammar g k.grammar_is).0 (utterance_block_out g.words low u is).0
        (k.sizes ∙ ap (λ (h : Heard). inputs_of (both g h)) same) (rules_begin k) (rw same at (edges_begin k)))

    pub high_refused : (r : Refusal) → as_slots z.sizes.words high ≡ refused (number r)
        → Promised (ranges grammar low high (length work)) work (Err r) work
    high_refused r e = read (Err r) λ g u okg oku ez begun begun'. rw (words_of z g u ez high ∙ slots_refused z.sizes.words high e) (refl, refl)

    -- and the high block
    module _ (h : Heard) (e : as_slots z.sizes.words high ≡ accepted h) {y : HeardSize} (ey : y ≡ heard_size h) (array' : List ℕ)
        (begun'' : Begins (edge_numbers (heard_edges h)) array') where
      pub differ : both_rise array z.heard array' y ≡ false → Promised (ranges grammar low high (length work)) work (Err CostRanges) work
      unfolding ranged ranges_conditions
      differ f = read (Err CostRanges) λ g u okg oku ez begun begun'.
          let (v, is, same) = slots_out z.sizes.words high e in
          let is' : utterance_block g.words high ≡ accepted v = words_of z g u ez high ∙ is in
          let falls : rises u v ≡ false = sym (both_rise_lem u v array array' begun' (rw same at begun'')) ∙ rw (ez, ey, same) at f in
          rw (is', falls) (refl, refl)

      pub alike : both_rise array z.heard array' y ≡ true → (r : Result Ranged Refusal) {work' : List ℕ}
          → AlikeRanged rules z array array' work r work' → Promised (ranges grammar low high (length work)) work r work'
      alike f r due = read r λ g u okg oku ez begun begun'.
          let (v, is, same) = slots_out z.sizes.words high e in
          let is' : utterance_block g.words high ≡ accepted v = words_of z g u ez high ∙ is in
          let risen : rises u v ≡ true = sym (both_rise_lem u v array array' begun' (rw same at begun'')) ∙ rw (ez, ey, same) at f in
          rw is' (due g u v okg oku (utterance_block_out g.words high v is').0 ez begun begun' (rw same at begun'') risen)

  -- what is made of what is asked is the answer over all choices
  pub answers_asked : (size : ℕ) {b : Grammar × Utterance × Utterance} → asked_ranges grammar low high size ≡ accepted b
      → Answers b.0 b.1 b.2 (answer b.0 b.1 b.2)
  unfolding asked_ranges ranges_conditions
  answers_asked size e =
      granted (grammar_block grammar) _ e λ g p e. granted (utterance_block g.words low) _ e λ u q e. granted (utterance_block g.words high) _ e λ v r e.
      let table : Bool = ltb size (table_size g.symbols (length u) 1) in
      let (risen, e) = picked_first (rises u v) (pick table (refused 22) (accepted (g, u, v))) (refused 59) refused≢accepted e in
      let (_, e) = accepted_else table 22 (accepted (g, u, v)) e in
      subst (λ (b : Grammar × Utterance × Utterance). Answers b.0 b.1 b.2 (answer b.0 b.1 b.2)) (accepted_is e) (answer_sound g u v risen)

  -- what is due is what is meant
  pub meant : (r : Result Ranged Refusal) {work' : List ℕ} → Promised (ranges grammar low high (length work)) work r work'
      → Promised (ranges grammar low high (length work)) work r work' × Meant grammar low high work (λ a. as_verdict r ≡ accepted (answered a)) work'
  unfolding ranges ranged ranges_conditions
  meant r due = (
    due,
    λ g eg u eu v ev risen room.
        let is : ranges grammar low high (length work) ≡ accepted (answer g u v) = rw (eg, eu, ev, risen, le-ltb _ _ room) in
        let due' = rw is at due in
        (answer g u v, due'.0, answer_sound g u v risen, due'.1),
  )
