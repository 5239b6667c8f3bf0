-- What each way out of the listing says of the definition: a refusal changes nothing, and what is written from the chart's table
-- is what is due.
use mathlib.Core.Path.{◌≡◌, refl, sym, ap, ◌∙◌}
use mathlib.Core.List.{List, ◌++◌}
use Rattle.std.specs.Prelude.{Ok, Err}
use Prim.Native.Nat.{ℕ, ◌*◌, ◌≤◌}
use lib.ListN.{length, drop, replicate}
use Rattle.packing.specs.Meaning.{Grammar, Heard, last_place, heard_edges}
use Rattle.packing.specs.Parse.{accepted, refused}
use Rattle.packing.specs.Refusal.{number}
use Rattle.packing.specs.declared.refusal.Refusal.{Refusal}
use Rattle.packing.specs.Flat.{Begins, rule_numbers, edge_numbers}
use Rattle.packing.specs.Valid.{ValidGrammar, ValidHeard}
use Rattle.packing.specs.Heard.{heard_block}
use Rattle.packing.proofs.Whole.{grammar_block_out}
use Rattle.packing.proofs.Heard.{heard_block_out}
use Rattle.derivation.specs.Heard.{output_length}
use Rattle.inputs.specs.Inputs.{meant_by}
use Rattle.inputs.specs.Answer.{Lists}
use Rattle.inputs.specs.declared.Inputs.{Inputs}
use Rattle.inputs.proofs.BlocksRead.{rules_begin, edges_begin, meant_first}
use Rattle.chart_table.specs.declared.Layout.{Layout}
use Rattle.chart.specs.Chart.{lay_out}
use Rattle.chart_theory.proofs.Accepted.{Holds, layout, chart_holds}
use Rattle.chart.specs.WorkTable.{table_size, work_after}
use Rattle.listing.specs.Listing.{joined, listed, list, output_after}
use Rattle.traced_readings.specs.Model.{form_of}
use Rattle.listing_limits.specs.Shortage.{verdict_on, shortage}
use Rattle.listing.specs.Model.{Filled, ReadListed}
use Rattle.listing_limits.specs.declared.Asked.{Asked}
use Rattle.traced_readings.specs.declared.Form.{Form}
use Rattle.listing_limits.specs.declared.Limits.{Limits}
use Rattle.traced_readings.proofs.Sizes.{size_is}
use Rattle.listing.proofs.Sizes.{Met, all_met, short}
use Rattle.listing.proofs.Joined.{length_joined}
use Rattle.listing.proofs.Accepted.{blocks, sized_blocks, listing_accepts}
use Rattle.traced_readings.proofs.Packed.{form}
use Rattle.listing.proofs.Blocks.{count_found, blocks_written}

-- the table holds the N least derivations
module _ (g : Grammar) (h : Heard) (okg : ValidGrammar g) (okh : ValidHeard g.words h) (some : 1 ≤ last_place h) (asked : Asked) (work out : List ℕ)
    (met : Met asked g.symbols (last_place h) (output_length g h) (length work) (length out)) where
  abbrev N : ℕ
  N = asked.wanted

  readings_due : (rules array : List ℕ) (m : ℕ) (work' out' : List ℕ) → Begins (rule_numbers g) rules → Begins (edge_numbers (heard_edges h)) array
      → Filled rules (form g h) array (length (heard_edges h)) (layout g h N) work out m work' out'
      → Lists work_after output_after (listed asked.limits g h N (length work) (length out)) work out (Ok m) work' out'
  unfolding table_size lay_out
  readings_due rules array m work' out' begun begun' filled =
      let ls = blocks g h N in
      let made = chart_holds g h N okg okh met.positive met.few rules array begun begun' (length work) met.table in
      let holds : Holds g h N rules filled.table m = rw (filled.number, filled.made) made in
      let count = count_found g N rules filled.table h some m holds in
      let size : length (joined ls) ≡ m * output_length g h =
      length_joined (output_length g h) ls (sized_blocks g h N okg okh) ∙ ap (λ (k : ℕ). k * output_length g h) count in
      let written : out' ≡ joined ls ++ drop (length (joined ls)) out =
      filled.blocks ∙ rw (blocks_written g N rules filled.table h some m holds, size, size_is g h) in
      rw (listing_accepts g h N asked.limits (length work) (length out) met.slots met.readings met.positive met.few met.table met.room)
      (record {
        answer = ap accepted (sym count);
        work_is = filled.emptied ∙ holds.clears ∙ ap (λ (k : ℕ). replicate k 0) filled.size;
        output_is = written;
      })

-- the ways out of inputs that were read
module _ (rules edges : List ℕ) (z : Inputs) (asked : Asked) (work out : List ℕ) {f : Form}
    (formed : f ≡ form_of z.heard.graph z.heard.last z.sizes.rules) where
  pub read_refused : {r : Refusal} → refused (number r) ≡ verdict_on (shortage asked z.sizes.symbols z.heard.last f.size (length work) (length out))
      → ReadListed rules edges z asked work out (Err r) work out
  unfolding list
  read_refused e grammar heard rules₀ edges₀ k =
      let g = k.meant.grammar in
      let h = k.meant.heard in
      let is = rw (formed, k.sizes, size_is g h) at e in
      rw (k.grammar_is, k.heard_is, short asked g h (length work) (length out) is)
      (record { answer = refl; work_is = refl; output_is = refl })

  pub read_found : {m : ℕ} {d : Layout} {work' out' : List ℕ}
      → accepted tt ≡ verdict_on (shortage asked z.sizes.symbols z.heard.last f.size (length work) (length out))
      → d ≡ lay_out z.sizes.symbols z.heard.last asked.wanted
      → Filled rules f edges z.heard.edges d work out m work' out' → ReadListed rules edges z asked work out (Ok m) work' out'
  unfolding list
  read_found {m} {work' = work'} {out'} none e-layout filled grammar heard rules₀ edges₀ k =
      let g = k.meant.grammar in
      let h = k.meant.heard in
      let okg = (grammar_block_out grammar g k.grammar_is).0 in
      let okh = (heard_block_out g.words heard h k.heard_is).0 in
      let met = all_met asked g.symbols (last_place h) (output_length g h) (length work) (length out) (rw (formed, k.sizes, size_is g h) at none) in
      let some : 1 ≤ last_place h = rw k.sizes at k.bounds.some_place in
      rw (k.grammar_is, k.heard_is)
      (readings_due g h okg okh some asked work out met rules edges m work' out' (rules_begin k) (edges_begin k) (rw (e-layout, formed, k.sizes) at filled))

-- and of blocks that were not
pub not_read : (l : Limits) (grammar heard : List ℕ) (N : ℕ) (work out : List ℕ) {r : Refusal} → meant_by heard_block grammar heard ≡ refused (number r)
    → Lists work_after output_after (list l grammar heard N (length work) (length out)) work out (Err r) work out
unfolding list
not_read l grammar heard N work out e =
    rw (meant_first heard_block grammar heard (λ g h. listed l g h N (length work) (length out)), e)
    (record { answer = refl; work_is = refl; output_is = refl })
