-- The rows of open listings hold: the search is run over the table, and what a call finds is counted in one pass over what it leaves.
use mathlib.Core.Path.{◌≡◌, refl, sym, ap, subst, ◌∙◌}
use mathlib.Core.Bool.{true}
use mathlib.Core.List.{List, [], ◌∷◌, ◌++◌}
use Prim.Native.Nat.{ℕ, suc, ◌+◌, ◌*◌, ◌/◌}
use lib.ListN.{length, drop}
use Rattle.packing.specs.Loop.{iter}
use Rattle.packing.specs.Store.{store_all}
use Rattle.packing.specs.Meaning.{Grammar, Heard, slots, last_place, slot_edges, edges_from}
use Rattle.packing.specs.Grammar.{
  rules_entries,
  rule_from,
  marked_rule_from,
  grammar_from,
  block_by,
  marked_block,
  grammar_block,
  block_of_grammar,
  marked_rules_entries,
  marked_entries,
  block_of_marked,
}
use Rattle.packing.specs.Utterance.{
  candidates_from,
  slot_from,
  slots_from,
  utterance_from,
  utterance_block,
  candidates_entries,
  slots_entries,
  utterance_entries,
  block_of_utterance,
}
use Rattle.packing.specs.Heard.{heard_block, block_of_heard}
use Rattle.packing.specs.Reading.{walk_entries, reading_entries, block_of_reading, reading_length}
use Rattle.packing.specs.Flat.{edge_numbers}
use Rattle.reading_writer.specs.Answer.{walk_in}
use Rattle.packing.specs.Source.{in_range, field_at}
use Rattle.packing.specs.Alike.{any_like, unlike_from}
use Rattle.bits.specs.Bits.{pick, num, bits_of, pack, ended}
use Rattle.bits.specs.Width.{width_of, width_from}
use Rattle.bits.specs.Fields.{bits_of_all}
use Rattle.derivation.specs.Derivation.{At, Derivation, weight, walk, reading}
use Rattle.derivation.specs.Order.{cost_sum}
use Rattle.derivation.specs.List.{trees, ranked}
use Rattle.derivation.specs.Rank.{Number}
use Rattle.derivation.specs.HeardList.{derivations}
use Rattle.derivation.proofs.HeardTheorems.{finitely_many}
use Rattle.chart_keys.specs.Keys.{join_price, lesser, part_price}
use Rattle.chart_table.specs.Table.{cell_number, entry_of, price_at, back_at, beside_at, put_beside, put_found, last_rank, put_last_rank, put_key}
use Rattle.chart_tags.specs.Tags.{code_of, shifted}
use Rattle.chart_queue.specs.Queue.{
  tag_of,
  tagged_back,
  queued_key,
  queue_length,
  keep_initial,
  put_queued,
  move_queued,
  put_queue_length,
  lesser_place,
  least_place,
  replace,
  push,
  extract_min,
}
use Rattle.chart_index.specs.Build.{rule_class, edge_class, members_of, count_below, group, index_rules, index_edges, make_index}
use Rattle.chart_candidates.specs.Candidates.{pair_key, word_leaf, edge_leaves, leaves, split_seeds, rule_seeds, seeds}
use Rattle.chart_successors.specs.Successors.{pair_successors, successors, pair_sibling, sibling, least_initial, replacement}
use Rattle.chart_ranks.specs.Ranks.{found_at, first_rank, next_rank}
use Rattle.chart_search.specs.Search.{
  extend,
  extend_parts,
  advance_pairing,
  back_before,
  next_of_span,
  first_of_heads,
  first_of_length,
  first_pass,
  next_of_root,
  further_from,
  search,
}
use Rattle.chart_trace.specs.Checked.{edge_fits, any_leaf, checked_node, spelled_weight}
use Rattle.chart_trace.specs.Trace.{trace_back}
use Rattle.chart.specs.WorkTable.{table_size}
use Rattle.chart.specs.Chart.{lay_out, enumerate, root_found, root_spelled, root_weight, root_trace}
use Rattle.inputs.specs.Inputs.{both, inputs_of, rules_array, edges_array, meant_by}
use Rattle.traced_readings.specs.Model.{block_at}
use Rattle.open_listing.specs.Stands.{found_ranks}
use Rattle.packing.specs.Parse.{Verdict}
use Rattle.open_listing.specs.Open.{opening, opened_of, place_of, Left, left}
use Rattle.open_answer.specs.Model.{settled}
use Rattle.open_search.specs.Model.{zeros, first_table, next_table, answered_by, seeks, table_by, sought_by, call_by}
use Rattle.open_listing.specs.Model.{plan_of, searched, next_of}
use Rattle.open_answer.specs.Answer.{Reading, NoMore}
use Rattle.proved_cases.specs.Table.{opens, hands, ends, Row, row, AllHold, all, ◌and◌, table_left, output_lent, call_after, ByRank, G, U, walked, N2-cases}
use Rattle.proved_cases.specs.Table.{first_reading, second_reading, third_reading, fourth_reading, fifth_reading}
use Rattle.proved_cases.proofs.Rows.{by_rank}
use Rattle.proved_cases.proofs.Found.{in_turn, found_in_turn}
use Rattle.proved_cases.proofs.Tables.{after_none, after_first, after_second, after_third, after_fourth, after_fifth}

opens_row : {g : Grammar} {h : Heard} {work : ℕ} {answer : Verdict (Unit {0})}
    → opened_of (opening (block_of_grammar g) (block_of_heard g.words h) work) ≡ answer → Row (opens g h work answer)
opens_row {g} {h} {work} {answer} answers = row (opens g h work answer) answers

-- a call after k readings with this table, and what it answers by the table that its search makes
module _ (g : Grammar) (h : Heard) (k : ℕ) (before : List ℕ) where
  abbrev called : Left
  called = next_of (block_of_grammar g) (block_of_heard g.words h) (place_of k) before output_lent

  abbrev settled_by : List ℕ → Left
  settled_by table =
      let q = plan_of (inputs_of (both g h)) in
      answered_by (pick (seeks q (place_of k) before) (root_found table q.layout k) true) table (rules_array g) (edges_array h) q k before output_lent

  abbrev Asks : Type 0
  Asks = called ≡ settled_by (searched g h (place_of k) before)

  abbrev Makes : List ℕ → Type 0
  Makes after = searched g h (place_of k) before ≡ after

-- where the table stands for what the calls before leave
module _ (g : Grammar) (h : Heard) (k : ℕ) {before : List ℕ} (was : table_left g h k ≡ before) where
  call_is : call_after g h k ≡ called g h k before
  call_is = ap (λ (t : List ℕ). next_of (block_of_grammar g) (block_of_heard g.words h) (place_of k) t output_lent) was

  left_by : {after : List ℕ} → Makes g h k before after → table_left g h (suc k) ≡ after
  left_by makes = ap (searched g h (place_of k)) was ∙ makes

  abbrev found : List ℕ → ℕ
  found t = in_turn (g.symbols * (last_place h * (last_place h + 1) / 2) * 256) t

  hands_row : {after reading : List ℕ} {m wanted : ℕ} {readings : List (List ℕ)} → Makes g h k before after → Asks g h k before
      → settled_by g h k before after ≡ left Reading after (reading ++ drop (length reading) output_lent) → found after ≡ found before + m
      → ByRank g h wanted readings → At readings k reading → Row (hands g h k m reading)
  hands_row {after} {reading} {m} makes asks settles counts ranks there =
      let is = left_by makes in
      row (hands g h k m reading) (
        call_is ∙ asks ∙ ap (settled_by g h k before) makes ∙ settles
            ∙ ap (λ (t : List ℕ). left Reading t (reading ++ drop (length reading) output_lent)) (sym is),
        ap (found_ranks g h) is ∙ found_in_turn g h after ∙ counts
            ∙ ap (λ (n : ℕ). n + m) (sym (found_in_turn g h before) ∙ ap (found_ranks g h) (sym was)),
        ranks.each k reading there,
      )

  ends_row : called g h k before ≡ left NoMore before output_lent → length (derivations g h) ≡ k → Row (ends g h k)
  ends_row runs many =
      row (ends g h k)
      (call_is ∙ runs ∙ ap (λ (t : List ℕ). left NoMore t output_lent) (sym was), subst (Number (Derivation g h)) many (finitely_many g h))

-- the table after each reading
left_none : table_left G (slots (U 4)) 0 ≡ after_none
unfolding table_size
left_none = refl

made : Makes G (slots (U 4)) 0 after_none after_first × Makes G (slots (U 4)) 1 after_first after_second
    × Makes G (slots (U 4)) 2 after_second after_third × Makes G (slots (U 4)) 3 after_third after_fourth
    × Makes G (slots (U 4)) 4 after_fourth after_fifth
unfolding iter store_all edge_numbers slot_edges edges_from rules_entries table_size join_price lesser part_price cell_number entry_of price_at back_at
    beside_at
    put_beside put_found last_rank put_last_rank put_key code_of shifted tag_of tagged_back queued_key queue_length keep_initial put_queued move_queued
    put_queue_length
    lesser_place least_place replace push extract_min rule_class edge_class members_of count_below group index_rules index_edges make_index pair_key word_leaf
    edge_leaves leaves split_seeds rule_seeds seeds found_at pair_successors successors pair_sibling sibling least_initial replacement first_rank next_rank
    extend
    extend_parts advance_pairing back_before next_of_span first_of_heads first_of_length first_pass next_of_root further_from search lay_out enumerate zeros
    first_table
    next_table seeks table_by
made = (refl, refl, refl, refl, refl)

left_first : table_left G (slots (U 4)) 1 ≡ after_first
left_first = left_by G (slots (U 4)) 0 left_none made.0

left_second : table_left G (slots (U 4)) 2 ≡ after_second
left_second = left_by G (slots (U 4)) 1 left_first made.1

left_third : table_left G (slots (U 4)) 3 ≡ after_third
left_third = left_by G (slots (U 4)) 2 left_second made.2

left_fourth : table_left G (slots (U 4)) 4 ≡ after_fourth
left_fourth = left_by G (slots (U 4)) 3 left_third made.3

left_fifth : table_left G (slots (U 4)) 5 ≡ after_fifth
left_fifth = left_by G (slots (U 4)) 4 left_fourth made.4

-- the list of these readings
listed : ByRank G (slots (U 4)) 8 (walked G (first_reading ∷ second_reading ∷ third_reading ∷ fourth_reading ∷ fifth_reading ∷ []))
unfolding num bits_of pack width_of width_from bits_of_all walk_entries reading_entries block_of_reading slot_edges edges_from weight cost_sum walk reading
    trees ranked
listed = by_rank G (slots (U 4)) 8 _ refl

-- each call answers by the table that its search makes, and the last finds none
asks : Asks G (slots (U 4)) 0 after_none × Asks G (slots (U 4)) 1 after_first × Asks G (slots (U 4)) 2 after_second
    × Asks G (slots (U 4)) 3 after_third × Asks G (slots (U 4)) 4 after_fourth
unfolding slot_edges edges_from lay_out reading_length meant_by call_by sought_by num bits_of pack ended width_of width_from bits_of_all in_range field_at
    rule_from
    marked_rule_from any_like unlike_from grammar_from block_by marked_block grammar_block marked_rules_entries marked_entries block_of_marked
    candidates_from slot_from
    slots_from utterance_from utterance_block heard_block candidates_entries slots_entries utterance_entries block_of_utterance
asks = (refl, refl, refl, refl, refl)

none_left : called G (slots (U 4)) 5 after_fifth ≡ left NoMore after_fifth output_lent
unfolding iter store_all edge_numbers slot_edges edges_from rules_entries table_size join_price lesser part_price cell_number entry_of price_at back_at
    beside_at
    put_beside put_found last_rank put_last_rank put_key code_of shifted tag_of tagged_back queued_key queue_length keep_initial put_queued move_queued
    put_queue_length
    lesser_place least_place replace push extract_min rule_class edge_class members_of count_below group index_rules index_edges make_index pair_key word_leaf
    edge_leaves leaves split_seeds rule_seeds seeds found_at pair_successors successors pair_sibling sibling least_initial replacement first_rank next_rank
    extend
    extend_parts advance_pairing back_before next_of_span first_of_heads first_of_length first_pass next_of_root further_from search lay_out enumerate zeros
    first_table
    next_table seeks table_by num bits_of pack ended width_of width_from bits_of_all in_range field_at rule_from marked_rule_from any_like unlike_from
    grammar_from block_by
    marked_block grammar_block marked_rules_entries marked_entries block_of_marked candidates_from slot_from slots_from utterance_from utterance_block
    heard_block
    candidates_entries slots_entries utterance_entries block_of_utterance walk_entries reading_entries block_of_reading reading_length walk_in meant_by
    settled sought_by
    call_by root_found root_spelled root_weight root_trace edge_fits any_leaf checked_node spelled_weight trace_back block_at
none_left = refl

-- of G and U
pub opened : AllHold N2-cases
unfolding iter store_all edge_numbers slot_edges edges_from rules_entries table_size cell_number entry_of price_at back_at lay_out zeros seeks num bits_of
    pack ended
    width_of width_from bits_of_all in_range field_at rule_from marked_rule_from any_like unlike_from grammar_from block_by marked_block grammar_block
    marked_rules_entries
    marked_entries block_of_marked candidates_from slot_from slots_from utterance_from utterance_block heard_block candidates_entries slots_entries
    utterance_entries
    block_of_utterance walk_entries reading_entries block_of_reading reading_length walk_in settled root_found root_spelled root_weight root_trace edge_fits
    any_leaf
    checked_node spelled_weight trace_back block_at weight cost_sum walk reading trees ranked opening in_turn
opened =
    opens_row refl
    and opens_row refl
    and hands_row G (slots (U 4)) 0 left_none made.0 asks.0 refl refl listed refl
    and hands_row G (slots (U 4)) 1 left_first made.1 asks.1 refl refl listed refl
    and hands_row G (slots (U 4)) 2 left_second made.2 asks.2 refl refl listed refl
    and hands_row G (slots (U 4)) 3 left_third made.3 asks.3 refl refl listed refl
    and hands_row G (slots (U 4)) 4 left_fourth made.4 asks.4 refl refl listed refl
    and ends_row G (slots (U 4)) 5 left_fifth none_left refl
    and all
