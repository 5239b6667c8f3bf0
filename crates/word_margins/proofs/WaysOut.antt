-- What each way out of the service says of the definition: a refusal changes nothing, and what the pass lists is the list that is due.
use mathlib.Core.Path.{◌≡◌, refl, sym, subst, ap, ◌∙◌}
use mathlib.Core.List.{List}
use Prim.Native.Nat.{ℕ, ◌*◌, ◌≤◌, ◌<◌}
use native.Mathlib.Nat.{zero-add}
use native.Mathlib.Omega.{arith}
use lib.Dec.{ltb}
use lib.ListN.{length, replicate}
use borrow.Author.Tests.{lt-ltb, le-ltb}
use Rattle.packing.specs.Meaning.{Grammar, Utterance, Heard, slots, edges}
use Rattle.packing.specs.Parse.{accepted, refused}
use Rattle.packing.specs.Flat.{Begins, rule_numbers, edge_numbers}
use Rattle.packing.specs.Store.{store_all}
use Rattle.packing.specs.Grammar.{grammar_block}
use Rattle.packing.specs.Heard.{as_slots}
use Rattle.packing.specs.Utterance.{utterance_block}
use Rattle.packing.proofs.Store.{store_at}
use Rattle.packing.proofs.Parse.{granted, accepted_else, accepted_is}
use Rattle.packing.proofs.Whole.{grammar_block_out, utterance_block_out}
use Rattle.cost_changes.specs.Margins as M
use Rattle.cost_changes.specs.Margins.{list_numbers}
use Rattle.cost_changes.specs.Listed.{margins_of}
use Rattle.cost_changes.proofs.Listed.{margins_are}
use Rattle.inputs.specs.Inputs.{both, meant_by, inputs_of}
use Rattle.inputs.specs.declared.Inputs.{Inputs}
use Rattle.inputs.proofs.BlocksRead.{rules_begin, edges_begin}
use Rattle.inputs.proofs.Slots.{slots_read, slots_refused}
use Rattle.packing.specs.Valid.{ValidGrammar, ValidUtterance}
use Rattle.chart_table.specs.declared.Layout.{Layout}
use Rattle.chart.specs.Chart.{lay_out}
use Rattle.chart.specs.WorkTable.{table_size, work_after}
use Rattle.inputs.specs.Answer.{Lists}
use Rattle.std.specs.Prelude.{Result, Ok, Err}
use Rattle.packing.specs.Read.{as_verdict}
use Rattle.packing.specs.Refusal.{number}
use Rattle.packing.specs.declared.refusal.Refusal.{Refusal}
use Rattle.packing.specs.declared.refusal.Refusal.TheVariants.{ListingWork, OutputShort}
use Rattle.one_best.specs.Model.{table_by}
use Rattle.one_best.specs.declared.Pass.{Pass}
use Rattle.one_best.proofs.Found.{pass_of}
use Rattle.word_margins.specs.Conditions.{margins_conditions, asked_margins}
use Rattle.word_margins.specs.WordMargins.{listed, margins, output_after, Meant}
use Rattle.word_margins.specs.Model.{pass_list, ReadMargins}
use Rattle.margin_entries.proofs.Insertion.{numbers_length}
use Rattle.word_margins.proofs.PassListed.{pass_list_lem, table_length}

-- the ways out of inputs that were read
module _ (rules array : List ℕ) (z : Inputs) (work out : List ℕ) where
  -- from what is due of the grammar and the utterance that they are of
  read_due : {r : Result ℕ Refusal} {work' out' : List ℕ}
      → ((g : Grammar) (u : Utterance) → ValidGrammar g → ValidUtterance g.words u → z ≡ inputs_of (both g (slots u)) → Begins (rule_numbers g) rules
      → Begins (edge_numbers (edges u)) array → Lists work_after output_after (listed g u (length work) (length out)) work out r work' out')
      → ReadMargins rules array z work out r work' out'
  unfolding margins
  read_due due grammar utterance rules₀ edges₀ k =
      let g = k.meant.grammar in
      let (u, is, same) = slots_read k in
      rw (k.grammar_is, is)
      (due g u (grammar_block_out grammar g k.grammar_is).0 (utterance_block_out g.words utterance u is).0
      (k.sizes ∙ ap (λ (h : Heard). inputs_of (both g h)) same)
      (rules_begin k) (rw same at (edges_begin k)))

  pub edges_short : length work < table_size z.sizes.symbols z.heard.last 1 → ReadMargins rules array z work out (Err ListingWork) work out
  unfolding listed margins_conditions
  edges_short short = read_due λ g u okg oku ez begun begun'.
      let short' : length work < table_size g.symbols (length u) 1 = rw ez at short in
      rw (lt-ltb _ _ short') (record { answer = refl; work_is = refl; output_is = refl })

  module _ (room : table_size z.sizes.symbols z.heard.last 1 ≤ length work) where
    pub edges_narrow : length out < 4 * z.heard.edges → ReadMargins rules array z work out (Err OutputShort) work out
    unfolding listed margins_conditions
    edges_narrow short = read_due λ g u okg oku ez begun begun'.
        let room' : table_size g.symbols (length u) 1 ≤ length work = rw ez at room in
        let short' : length out < 4 * length (edges u) = rw ez at short in
        rw (le-ltb _ _ room', lt-ltb _ _ short') (record { answer = refl; work_is = refl; output_is = refl })

    pub edges_listed : 4 * z.heard.edges ≤ length out → {d : Layout} → d ≡ lay_out z.sizes.symbols z.heard.last 1 → {m : ℕ} {work' out' : List ℕ}
        → m ≡ length (pass_list rules array (record { rules = z.sizes.rules; edges = z.heard.edges; table = d }) (length work))
        → work' ≡ replicate (length work) 0 → length
        (table_by rules array (record { rules = z.sizes.rules; edges = z.heard.edges; table = d }) (length work)) ≡ length work
        → out' ≡ store_all out 0 (list_numbers (pass_list rules array (record { rules = z.sizes.rules; edges = z.heard.edges; table = d }) (length work)))
        → ReadMargins rules array z work out (Ok m) work' out'
    unfolding listed margins_conditions
    edges_listed wide {d} ed em ew kept eo = read_due λ g u okg oku ez begun begun'.
        let room' : table_size g.symbols (length u) 1 ≤ length work = rw ez at room in
        let wide' : 4 * length (edges u) ≤ length out = rw ez at wide in
        let is : ◌≡◌ {A = Pass} (record { rules = z.sizes.rules; edges = z.heard.edges; table = d }) (pass_of g u) = rw (ed, ez) in
        let kept' : length (table_by rules array (pass_of g u) (length work)) ≡ length work =
        ap (λ (p : Pass). length (table_by rules array p (length work))) (sym is) ∙ kept in
        let same : pass_list rules array (record { rules = z.sizes.rules; edges = z.heard.edges; table = d }) (length work) ≡ margins_of g u =
        ap (λ (p : Pass). pass_list rules array p (length work)) is ∙ pass_list_lem g okg rules begun (length work) u oku array begun' room' kept' in
        let few : length (margins_of g u) ≤ length (edges u) =
        rw (pass_list_lem g okg rules begun (length work) u oku array begun' room' kept') at (pass_length (pass_of g u)) in
        let n = numbers_length (margins_of g u) in
        let front = store_at out 0 (list_numbers (margins_of g u)) (omega arith) in
        let written = eo ∙ ap (λ (l : List M.MarginEntry). store_all out 0 (list_numbers l)) same ∙ front ∙ rw zero-add in
        rw (le-ltb _ _ room', le-ltb _ _ wide') (record { answer = ap accepted (em ∙ ap length same); work_is = ew; output_is = written })
      where
        pass_length : (p : Pass) → length (pass_list rules array p (length work)) ≤ p.edges
        pass_length p = table_length rules array p (length work)

-- and of blocks that were not
module _ (grammar utterance work out : List ℕ) where
  pub not_read : {r : Refusal} → meant_by as_slots grammar utterance ≡ refused (number r)
      → Lists work_after output_after (margins grammar utterance (length work) (length out)) work out (Err r) work out
  unfolding margins
  not_read e = rw (slots_refused grammar utterance (λ g u. listed g u (length work) (length out)) e)
      (record { answer = refl; work_is = refl; output_is = refl })

  -- what is made of what is asked is the list
  pub margins_listed : (size room : ℕ) {b : Grammar × Utterance} → asked_margins grammar utterance size room ≡ accepted b
      → M.Margins b.0 b.1 (margins_of b.0 b.1)
  unfolding asked_margins margins_conditions
  margins_listed size room e =
      granted (grammar_block grammar) _ e λ g p e. granted (utterance_block g.words utterance) _ e λ u q e.
      let (_, e) = accepted_else (ltb size (table_size g.symbols (length u) 1)) 22 _ e in
      let (_, e) = accepted_else (ltb room (4 * length (edges u))) 43 (accepted (g, u)) e in
      subst (λ (b : Grammar × Utterance). M.Margins b.0 b.1 (margins_of b.0 b.1)) (accepted_is e)
      (margins_are g.words g u (utterance_block_out g.words utterance u q).0)

  -- what is due is what is meant
  pub meant : {r : Result ℕ Refusal} {work' out' : List ℕ} → Lists work_after output_after (margins grammar utterance (length work)
      (length out)) work out r work' out'
      → Lists work_after output_after (margins grammar utterance (length work) (length out)) work out r work' out'
      × Meant grammar utterance work out (λ l. as_verdict r ≡ accepted (length l)) work' out'
  unfolding margins listed margins_conditions
  meant due = (
    due,
    λ g eg u eu room wide.
        let is : margins grammar utterance (length work) (length out) ≡ accepted (margins_of g u) = rw (eg, eu, le-ltb _ _ room, le-ltb _ _ wide) in
        let due' = rw is at due in
        (margins_of g u, due'.answer, margins_are g.words g u (utterance_block_out g.words utterance u eu).0, due'.output_is, due'.work_is),
  )
