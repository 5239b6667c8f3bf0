-- The main example of document 02's N5, from sheet to block, and sheets that are refused: the definitions compute.
use mathlib.Core.Path.{◌≡◌, refl}
use mathlib.Core.List.{List, [], ◌∷◌}
use Prim.Native.Nat.{ℕ}
use Rattle.bits.specs.Bits.{bits_of, pack}
use Rattle.bits.specs.Width.{width_of, width_from}
use Rattle.bits.specs.Fields.{bits_of_all}
use Rattle.packing.specs.Parse.{accepted, refused}
use Rattle.packing.specs.Source.{field_at, in_range}
use Rattle.packing.specs.Alike.{any_like, unlike_from}
use Rattle.packing.specs.Grammar.{marked_rules_entries, marked_entries, block_of_marked}
use Rattle.packing.specs.Conversion.{fitting}
use Rattle.office.specs.Sheet.{item_from, items_from, office_rule_from, items_alike, rule_alike, office_from, office_sheet}
use Rattle.office.specs.Conversion.{convert, convert_marked}
use Rattle.office_conversion.specs.Limits.{in_limits, office_grammar}
use Rattle.office_block.specs.Block.{office_to_block}

abbrev desk : List ℕ
desk =
    2 ∷ 4 ∷ 4 ∷ 0 ∷ 5 ∷ 3 ∷ 1 ∷ 0 ∷ 0 ∷ 1 ∷ 1 ∷ 2 ∷ 1 ∷ 1 ∷ 1 ∷ 1 ∷ 1 ∷ 1 ∷ 2 ∷ 2 ∷ 1 ∷ 3 ∷ 1 ∷ 1 ∷ 0 ∷ 7 ∷ 4 ∷ 1 ∷ 0 ∷ 0 ∷ 1 ∷ 1 ∷ 2 ∷ 1 ∷ 2 ∷ []

pub examples :
    (office_to_block desk
    ≡ accepted (66 ∷ 65 ∷ 1 ∷ 96 ∷ 0 ∷ 5 ∷ 36 ∷ 68 ∷ 0 ∷ 5 ∷ 4 ∷ 0 ∷ 9 ∷ 88 ∷ 0 ∷ 0 ∷ 114 ∷ 116 ∷ 128 ∷ 0 ∷ 12 ∷ 192 ∷ 0 ∷ 41 ∷ 0 ∷ 0 ∷ 4 ∷ 245 ∷ 0 ∷ 0 ∷ 246 ∷
    0
    ∷ 0 ∷ 103 ∷ 0 ∷ 0 ∷ 24 ∷ 160 ∷ 0 ∷ 0 ∷ 206 ∷ []))
    × (office_to_block (1 ∷ 1 ∷ 1 ∷ 0 ∷ 0 ∷ 1 ∷ 1 ∷ 0 ∷ []) ≡ accepted (64 ∷ 64 ∷ 64 ∷ 48 ∷ 0 ∷ 0 ∷ []))
    × (fitting (office_to_block (1 ∷ 1 ∷ 1 ∷ 0 ∷ 0 ∷ 1 ∷ 1 ∷ 0 ∷ [])) (9 ∷ 9 ∷ 9 ∷ 9 ∷ 9 ∷ []) ≡ refused 43)
    × (office_to_block (1 ∷ 1 ∷ 1 ∷ 0 ∷ 0 ∷ 1 ∷ 1 ∷ 0 ∷ 9 ∷ []) ≡ refused 41)
unfolding bits_of pack width_of width_from bits_of_all field_at in_range any_like unlike_from marked_rules_entries marked_entries block_of_marked fitting
    item_from items_from
    office_rule_from items_alike rule_alike office_from office_sheet convert convert_marked in_limits office_grammar office_to_block
examples = (refl, refl, refl, refl)
