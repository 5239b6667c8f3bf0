-- The block of an office sheet: document 02, N5, "The result is a packed grammar of kind 4". Stands on office's Conversion and on
-- office_conversion's Limits.
use Rattle.std.specs.Prelude.{List, ℕ}
use Rattle.packing.specs.Parse.{Verdict, accepted, ◌then◌}
use Rattle.packing.specs.Grammar.{block_of_marked}
use Rattle.office.specs.Conversion.{convert_marked}
use Rattle.office_conversion.specs.Limits.{office_grammar}

unfoldable pub office_to_block : List ℕ → Verdict (List ℕ)
office_to_block sheet = office_grammar sheet then λ o. accepted (block_of_marked (convert_marked o))
