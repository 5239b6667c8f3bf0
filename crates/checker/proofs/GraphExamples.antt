-- Examples of document 02's N1 as one theorem: the definition computes.
use mathlib.Core.Path.{◌≡◌, refl}
use mathlib.Core.List.{List, [], ◌∷◌}
use Prim.Native.Nat.{ℕ}
use Rattle.bits.specs.Bits.{num, bits_of, ended}
use Rattle.bits.specs.Width.{width_of, width_from}
use Rattle.bits.specs.Fields.{bits_of_all}
use Rattle.packing.specs.Source.{in_range, field_at}
use Rattle.packing.specs.Alike.{any_like, unlike_from}
use Rattle.packing.specs.Grammar.{rule_from, marked_rule_from, grammar_from, block_by, marked_block, grammar_block}
use Rattle.packing.specs.Graph.{edge_from, graph_from, graph_block}
use Rattle.packing.specs.Heard.{heard_block}
use Rattle.packing.specs.GraphReading.{trace_entries, graph_head_from}
use Rattle.derivation.specs.Derivation.{weight}
use Rattle.derivation.specs.Heard.{path_length, trace}
use Rattle.derivation.specs.List.{trees}
use Rattle.checker.specs.Judgement.{fields_from}
use Rattle.packing.specs.Parse.{Verdict, accepted, refused}
use Rattle.checker.specs.Check.{has_bits, first_with, derivation_of, check, passed}

-- document 01's grammar G, and four places with edges 0→1, 1→2, 0→2 at cost 3 and 2→3
abbrev G : List ℕ
G = 16 ∷ 64 ∷ 64 ∷ 64 ∷ 0 ∷ 9 ∷ 0 ∷ 0 ∷ 0 ∷ []

abbrev four_places : List ℕ
four_places = 82 ∷ 4 ∷ 0 ∷ 64 ∷ 0 ∷ 1 ∷ 16 ∷ 0 ∷ 0 ∷ 2 ∷ 0 ∷ 1 ∷ 136 ∷ 96 ∷ 0 ∷ 0 ∷ []

-- a grammar of two words, and a graph in which the first was not heard (N3)
abbrev two_words : List ℕ
two_words = 16 ∷ 64 ∷ 128 ∷ 80 ∷ 0 ∷ 42 ∷ 0 ∷ 3 ∷ 128 ∷ []

abbrev one_heard : List ℕ
one_heard = 81 ∷ 2 ∷ 0 ∷ 95 ∷ 255 ∷ 224 ∷ 12 ∷ 0 ∷ 0 ∷ []

abbrev checks : List ℕ → Verdict (Unit {0})
checks reading = passed (check G four_places reading)

-- the third passes the check as 7 bytes, and as 8 gives 36; with another weight, 35
pub third : (checks (96 ∷ 128 ∷ 0 ∷ 1 ∷ 16 ∷ 80 ∷ 96 ∷ []) ≡ accepted tt)
    × (checks (96 ∷ 128 ∷ 0 ∷ 1 ∷ 16 ∷ 80 ∷ 96 ∷ 0 ∷ []) ≡ refused 36)
    × (checks (96 ∷ 128 ∷ 0 ∷ 1 ∷ 80 ∷ 80 ∷ 96 ∷ []) ≡ refused 35)
unfolding num bits_of ended width_of width_from bits_of_all in_range field_at any_like unlike_from rule_from marked_rule_from grammar_from block_by
    marked_block grammar_block
    edge_from graph_from graph_block heard_block trace_entries graph_head_from weight path_length trace trees has_bits fields_from first_with derivation_of
    check
third = (refl, refl, refl)

-- 34: an edge that does not start where the path stands, a path that does not end at P − 1, an edge number not below E, another mix of
-- rules; and an edge that was not heard, where the other passes
pub not_a_walk : (checks (96 ∷ 128 ∷ 0 ∷ 1 ∷ 16 ∷ 16 ∷ 96 ∷ []) ≡ refused 34)
    × (checks (96 ∷ 128 ∷ 0 ∷ 0 ∷ 80 ∷ 16 ∷ 32 ∷ []) ≡ refused 34)
    × (checks (96 ∷ 128 ∷ 0 ∷ 1 ∷ 16 ∷ 80 ∷ 128 ∷ []) ≡ refused 34)
    × (checks (96 ∷ 128 ∷ 0 ∷ 1 ∷ 32 ∷ 160 ∷ 192 ∷ []) ≡ refused 34)
    × (passed (check two_words one_heard (96 ∷ 64 ∷ 0 ∷ 0 ∷ 192 ∷ 0 ∷ [])) ≡ refused 34)
    × (passed (check two_words one_heard (96 ∷ 64 ∷ 0 ∷ 0 ∷ 224 ∷ 64 ∷ [])) ≡ accepted tt)
unfolding num bits_of ended width_of width_from bits_of_all in_range field_at any_like unlike_from rule_from marked_rule_from grammar_from block_by
    marked_block grammar_block
    edge_from graph_from graph_block heard_block trace_entries graph_head_from weight path_length trace trees has_bits fields_from first_with derivation_of
    check
not_a_walk = (refl, refl, refl, refl, refl, refl)

-- 33 for n 0 or above P − 1, 32 for a reading of slots, 31 for fewer bits than n edges need
pub not_read : (checks (96 ∷ 0 ∷ 0 ∷ 1 ∷ 16 ∷ 80 ∷ 96 ∷ []) ≡ refused 33) × (checks (97 ∷ 0 ∷ 0 ∷ 1 ∷ 16 ∷ 80 ∷ 96 ∷ []) ≡ refused 33)
    × (checks (48 ∷ 128 ∷ 0 ∷ 1 ∷ 16 ∷ 80 ∷ 96 ∷ []) ≡ refused 32) × (checks (96 ∷ 128 ∷ 0 ∷ 1 ∷ 16 ∷ 80 ∷ []) ≡ refused 31)
unfolding num bits_of ended width_of width_from bits_of_all in_range field_at any_like unlike_from rule_from marked_rule_from grammar_from block_by
    marked_block grammar_block
    edge_from graph_from graph_block heard_block graph_head_from fields_from check
not_read = (refl, refl, refl, refl)
