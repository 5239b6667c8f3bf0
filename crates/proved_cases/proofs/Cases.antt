-- All rows of the table hold: the definitions compute, and what they come to means what the services' theorems say.
use mathlib.Core.Path.{refl}
use Rattle.packing.specs.Meaning.{slot_edges, edges_from}
use Rattle.packing.specs.Grammar.{rule_from, marked_rule_from, grammar_from, block_by}
use Rattle.packing.specs.Grammar.{marked_block, grammar_block, marked_rules_entries, marked_entries, block_of_marked}
use Rattle.packing.specs.Utterance.{
  candidates_from,
  slot_from,
  slots_from,
  utterance_from,
  utterance_block,
  candidates_entries,
  slots_entries,
  utterance_entries,
  block_of_utterance,
}
use Rattle.packing.specs.Heard.{heard_block}
use Rattle.packing.specs.Graph.{edge_from, graph_from, graph_block, edges_entries, graph_entries, block_of_graph}
use Rattle.packing.specs.GraphReading.{trace_entries, graph_reading_entries, block_of_graph_reading, graph_reading_length, padded, graph_head_from}
use Rattle.packing.specs.Reading.{walk_from, reading_from, walk_entries, reading_entries, block_of_reading, reading_length}
use Rattle.bits.specs.Bits.{num, bits_of, pack, ended}
use Rattle.bits.specs.Width.{width_of, width_from}
use Rattle.bits.specs.Fields.{bits_of_all}
use Rattle.packing.specs.Source.{in_range, field_at}
use Rattle.packing.specs.Alike.{any_like, unlike_from}
use Rattle.derivation.specs.Derivation.{weight, walk, reading}
use Rattle.derivation.specs.Heard.{path_length, trace, graph_reading}
use Rattle.derivation.specs.Order.{cost_sum}
use Rattle.derivation.specs.List.{trees, ranked}
use Rattle.chart.specs.WorkTable.{table_size}
use Rattle.listing.specs.Conditions.{conditions}
use Rattle.listing.specs.Listing.{listed, list, joined}
use Rattle.checker.specs.Judgement.{fields_from}
use Rattle.checker.specs.Check.{has_bits, first_with, derivation_of, check}
use Rattle.phrases.specs.Phrases.{word_order}
use Rattle.phrases.specs.Enumeration.{first_phrase, next_phrase}
use Rattle.specimen.specs.Specimen.{specimen}
use Rattle.next_phrase.specs.NextPhrase.{next}
use Rattle.cost_changes.specs.Costs.{edges_of}
use Rattle.cost_changes.specs.Ranges.{slot_rises, rises}
use Rattle.cost_changes.specs.Passes.{raised, answer_of, answer}
use Rattle.cost_changes.specs.Listed.{margins_of}
use Rattle.cost_ranges.specs.Conditions.{ranges_conditions}
use Rattle.cost_ranges.specs.CostRanges.{ranged, ranges}
use Rattle.word_margins.specs.Conditions.{margins_conditions}
use Rattle.word_margins.specs.WordMargins as WordMargins
use Rattle.office.specs.Sheet.{item_from, items_from, office_rule_from, items_alike, rule_alike, office_from, office_sheet}
use Rattle.office.specs.Conversion.{convert, marks, convert_marked}
use Rattle.office_conversion.specs.Limits.{in_limits, office_grammar}
use Rattle.office_block.specs.Block.{office_to_block}
use Rattle.proved_cases.specs.Table.{AllHold, all, ◌and◌, P-cases, N1-cases, N2-cases, N5-cases, N6-cases, N8-cases, N11-cases, N12-cases, cases}
use Rattle.proved_cases.proofs.Rows.{
  lists_row,
  finds_row,
  panel_row,
  grammar_row,
  heard_row,
  bytes_only,
  passes_row,
  refuses_row,
  specimen_row,
  first_row,
  next_row,
  ranges_row,
  ranges_refused,
  margins_row,
  margins_refused,
  office_row,
  all_join,
}
use Rattle.proved_cases.proofs.OneByOne.{opened}

-- document 01's, and N7's and N9's, of strings
documents : AllHold P-cases
unfolding slot_edges edges_from num bits_of pack ended width_of width_from bits_of_all in_range field_at rule_from marked_rule_from any_like unlike_from
    grammar_from
    block_by marked_block grammar_block marked_rules_entries marked_entries block_of_marked candidates_from slot_from slots_from utterance_from utterance_block
    heard_block candidates_entries slots_entries utterance_entries block_of_utterance walk_from reading_from walk_entries reading_entries block_of_reading
    weight
    cost_sum walk reading trees ranked table_size reading_length conditions listed list joined fields_from first_with derivation_of check first_phrase
    specimen word_order next_phrase next bytes_only
documents =
    grammar_row refl
    and heard_row refl
    and lists_row refl refl
    and finds_row refl (λ out. refl)
    and lists_row refl refl
    and lists_row refl refl
    and lists_row refl refl
    and lists_row refl refl
    and passes_row refl refl
    and refuses_row refl
    and lists_row refl refl
    and lists_row refl refl
    and specimen_row refl refl refl refl
    and specimen_row refl refl refl refl
    and grammar_row refl
    and specimen_row refl refl refl refl
    and grammar_row refl
    and specimen_row refl refl refl refl
    and specimen_row refl refl refl refl
    and specimen_row refl refl refl refl
    and grammar_row refl
    and first_row refl refl refl refl
    and next_row refl refl refl refl
    and next_row refl refl refl refl
    and next_row refl refl refl refl
    and next_row refl refl refl refl
    and next_row refl refl refl refl
    and next_row refl refl refl refl
    and all

-- of word graphs
graphs : AllHold N1-cases
unfolding slot_edges edges_from num bits_of pack ended width_of width_from bits_of_all in_range field_at rule_from marked_rule_from any_like unlike_from
    grammar_from
    block_by marked_block grammar_block marked_rules_entries marked_entries block_of_marked candidates_from slot_from slots_from utterance_from utterance_block
    heard_block candidates_entries slots_entries utterance_entries block_of_utterance walk_from reading_from walk_entries reading_entries block_of_reading
    weight
    cost_sum walk reading trees ranked table_size reading_length conditions listed list joined fields_from first_with derivation_of check edge_from graph_from
    graph_block edges_entries graph_entries block_of_graph trace_entries graph_reading_entries block_of_graph_reading graph_reading_length padded graph_reading
    path_length trace graph_head_from has_bits bytes_only
graphs =
    heard_row refl
    and lists_row refl refl
    and heard_row refl
    and lists_row refl refl
    and passes_row refl refl
    and refuses_row refl
    and refuses_row refl
    and refuses_row refl
    and lists_row refl refl
    and lists_row refl refl
    and lists_row refl refl
    and all

-- of office sheets
offices : AllHold N5-cases
unfolding num bits_of pack width_of width_from bits_of_all in_range field_at any_like unlike_from marked_rules_entries marked_entries block_of_marked item_from
    items_from office_rule_from items_alike rule_alike office_from office_sheet in_limits office_grammar office_to_block convert marks convert_marked
offices =
    office_row refl
    and all

-- of ties
ties : AllHold N6-cases
unfolding slot_edges edges_from num bits_of pack ended width_of width_from bits_of_all in_range field_at rule_from marked_rule_from any_like unlike_from
    grammar_from
    block_by marked_block grammar_block marked_rules_entries marked_entries block_of_marked candidates_from slot_from slots_from utterance_from utterance_block
    heard_block candidates_entries slots_entries utterance_entries block_of_utterance walk_from reading_from walk_entries reading_entries block_of_reading
    weight
    cost_sum walk reading trees ranked table_size reading_length conditions listed list joined fields_from first_with derivation_of check first_phrase
    specimen
ties =
    lists_row refl refl
    and lists_row refl refl
    and all

-- of the panel
panels : AllHold N8-cases
unfolding slot_edges edges_from num bits_of pack ended width_of width_from bits_of_all in_range field_at rule_from marked_rule_from any_like unlike_from
    grammar_from
    block_by marked_block grammar_block marked_rules_entries marked_entries block_of_marked candidates_from slot_from slots_from utterance_from utterance_block
    heard_block candidates_entries slots_entries utterance_entries block_of_utterance walk_from reading_from walk_entries reading_entries block_of_reading
    weight
    cost_sum walk reading trees ranked table_size reading_length conditions listed list joined
panels =
    panel_row refl
    and panel_row refl
    and panel_row refl
    and panel_row refl
    and panel_row refl
    and panel_row refl
    and panel_row refl
    and panel_row refl
    and panel_row refl
    and panel_row refl
    and all

-- of costs within ranges
costs : AllHold N11-cases
unfolding slot_edges edges_from num bits_of pack ended width_of width_from bits_of_all in_range field_at rule_from marked_rule_from any_like unlike_from
    grammar_from
    block_by marked_block grammar_block marked_rules_entries marked_entries block_of_marked candidates_from slot_from slots_from utterance_from utterance_block
    candidates_entries slots_entries utterance_entries block_of_utterance weight cost_sum trees ranked table_size slot_rises rises edges_of raised answer_of
    answer ranges_conditions ranged ranges
costs =
    ranges_row refl refl refl
    and ranges_row refl refl refl
    and ranges_row refl refl refl
    and ranges_row refl refl refl
    and ranges_refused refl
    and ranges_row refl refl refl
    and ranges_refused refl
    and all

-- of words to listen to again
listened : AllHold N12-cases
unfolding slot_edges edges_from num bits_of pack ended width_of width_from bits_of_all in_range field_at rule_from marked_rule_from any_like unlike_from
    grammar_from
    block_by marked_block grammar_block marked_rules_entries marked_entries block_of_marked candidates_from slot_from slots_from utterance_from utterance_block
    candidates_entries slots_entries utterance_entries block_of_utterance table_size margins_of margins_conditions WordMargins.listed WordMargins.margins
listened =
    grammar_row refl
    and heard_row refl
    and margins_row refl refl refl
    and margins_refused refl
    and margins_refused refl
    and heard_row refl
    and margins_row refl refl refl
    and heard_row refl
    and margins_row refl refl refl
    and heard_row refl
    and margins_row refl refl refl
    and all

-- The one theorem.
pub cases_hold : AllHold cases
cases_hold =
    all_join P-cases _ documents (all_join N1-cases _ graphs (all_join N2-cases _ opened (all_join N5-cases _ offices
    (all_join N6-cases _ ties (all_join N8-cases _ panels (all_join N11-cases N12-cases costs listened))))))
