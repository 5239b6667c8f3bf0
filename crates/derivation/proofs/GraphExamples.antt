-- Examples of document 02's N1 as one theorem: the definitions compute.
use mathlib.Core.Path.{◌≡◌, refl}
use mathlib.Core.List.{List, [], ◌∷◌, map}
use Prim.Native.Nat.{ℕ}
use Rattle.bits.specs.Bits.{num, bits_of, pack, ended}
use Rattle.bits.specs.Width.{width_of, width_from}
use Rattle.bits.specs.Fields.{bits_of_all}
use Rattle.packing.specs.Parse.{Verdict, accepted, ◌then◌}
use Rattle.packing.specs.Source.{in_range, field_at}
use Rattle.packing.specs.Alike.{any_like, unlike_from}
use Rattle.packing.specs.Grammar.{rule_from, marked_rule_from, grammar_from, block_by, marked_block, grammar_block}
use Rattle.packing.specs.Graph.{edge_from, graph_from, graph_block}
use Rattle.packing.specs.Heard.{heard_block}
use Rattle.packing.specs.GraphReading.{trace_entries, graph_reading_entries, block_of_graph_reading, graph_reading_length, padded}
use Rattle.derivation.specs.List.{ranked}
use Rattle.derivation.specs.Heard.{graph_reading, packed}
use Rattle.derivation.specs.HeardList.{derivations}

-- the readings of a grammar block and a block of what was heard, as they stand in the output
abbrev readings : List ℕ → List ℕ → Verdict (List (List ℕ))
readings grammar heard = grammar_block grammar then λ g. heard_block g.words heard then λ h. accepted (map (packed g h) (derivations g h))

-- document 01's grammar G
abbrev G : List ℕ
G = 16 ∷ 64 ∷ 64 ∷ 64 ∷ 0 ∷ 9 ∷ 0 ∷ 0 ∷ 0 ∷ []

-- its U redrawn
abbrev U-redrawn : List ℕ
U-redrawn = 82 ∷ 132 ∷ 0 ∷ 64 ∷ 0 ∷ 1 ∷ 16 ∷ 0 ∷ 0 ∷ 67 ∷ 0 ∷ 0 ∷ 12 ∷ 128 ∷ 0 ∷ 0 ∷ []

-- four places, with an edge over two of the three steps, so that a path of two edges has zeros behind its reading
abbrev four_places : List ℕ
four_places = 82 ∷ 4 ∷ 0 ∷ 64 ∷ 0 ∷ 1 ∷ 16 ∷ 0 ∷ 0 ∷ 2 ∷ 0 ∷ 1 ∷ 136 ∷ 96 ∷ 0 ∷ 0 ∷ []

-- of three places, one edge from the first to the last at cost 7; and one that goes only to the second
abbrev one_edge : List ℕ
one_edge = 81 ∷ 129 ∷ 0 ∷ 128 ∷ 0 ∷ 224 ∷ []

abbrev no_path : List ℕ
no_path = 81 ∷ 129 ∷ 0 ∷ 64 ∷ 0 ∷ 0 ∷ []

-- a grammar of two words, and a graph in which the first was not heard (N3)
abbrev two_words : List ℕ
two_words = 16 ∷ 64 ∷ 128 ∷ 80 ∷ 0 ∷ 42 ∷ 0 ∷ 3 ∷ 128 ∷ []

abbrev one_heard : List ℕ
one_heard = 81 ∷ 2 ∷ 0 ∷ 95 ∷ 255 ∷ 224 ∷ 12 ∷ 0 ∷ 0 ∷ []

pub examples :
    (readings G U-redrawn
    ≡ accepted (
    (97 ∷ 0 ∷ 0 ∷ 0 ∷ 208 ∷ 8 ∷ 20 ∷ 20 ∷ 24 ∷ [])
    ∷ (97 ∷ 0 ∷ 0 ∷ 0 ∷ 208 ∷ 4 ∷ 12 ∷ 20 ∷ 24 ∷ [])
    ∷ (97 ∷ 0 ∷ 0 ∷ 0 ∷ 200 ∷ 8 ∷ 20 ∷ 20 ∷ 24 ∷ [])
    ∷ (97 ∷ 0 ∷ 0 ∷ 0 ∷ 200 ∷ 4 ∷ 12 ∷ 20 ∷ 24 ∷ [])
    ∷ (97 ∷ 0 ∷ 0 ∷ 0 ∷ 196 ∷ 4 ∷ 12 ∷ 20 ∷ 24 ∷ []) ∷ []))
    × (readings G four_places
    ≡ accepted (
    (96 ∷ 192 ∷ 0 ∷ 0 ∷ 144 ∷ 8 ∷ 24 ∷ 48 ∷ []) ∷ (96 ∷ 192 ∷ 0 ∷ 0 ∷ 136 ∷ 8 ∷ 24 ∷ 48 ∷ [])
    ∷ (96 ∷ 128 ∷ 0 ∷ 1 ∷ 16 ∷ 80 ∷ 96 ∷ 0 ∷ []) ∷ []))
    × (readings G one_edge ≡ accepted ((96 ∷ 64 ∷ 0 ∷ 1 ∷ 224 ∷ 0 ∷ 0 ∷ []) ∷ []))
    × (readings G no_path ≡ accepted [])
    × (readings two_words one_heard ≡ accepted ((96 ∷ 64 ∷ 0 ∷ 0 ∷ 224 ∷ 64 ∷ []) ∷ []))
unfolding num bits_of pack ended width_of width_from bits_of_all in_range field_at any_like unlike_from rule_from marked_rule_from grammar_from block_by
    marked_block
    grammar_block edge_from graph_from graph_block heard_block trace_entries graph_reading_entries block_of_graph_reading graph_reading_length padded ranked
    graph_reading
examples = (refl, refl, refl, refl, refl)
