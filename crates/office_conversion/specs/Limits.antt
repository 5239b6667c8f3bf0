-- What an office sheet's grammar is: document 02, request N5: 56 if it passes 32 symbols or 256 rules. Stands on office's Sheet and
-- Conversion.
use Rattle.std.specs.Prelude.{List, ℕ, ltb, length}
use Rattle.bits.specs.Bits.{pick}
use Rattle.packing.specs.Parse.{Verdict, accepted, refused, ◌then◌}
use Rattle.office.specs.Office.{Office}
use Rattle.office.specs.Sheet.{office_sheet}
use Rattle.office.specs.Conversion.{convert}

-- the office grammar, where its conversion passes no limit
unfoldable pub in_limits : Office → Verdict Office
in_limits o = pick (ltb 32 (convert o).symbols) (refused 56) (pick (ltb 256 (length (convert o).rules)) (refused 56) (accepted o))

unfoldable pub office_grammar : List ℕ → Verdict Office
office_grammar s = office_sheet s then in_limits
