-- Every refusal of an office sheet's conversion is a number of its rows: the sheet's, then 56, then 43.
use mathlib.Core.Path.{refl}
use mathlib.Core.List.{List}
use Prim.Native.Nat.{ℕ}
use lib.Dec.{ltb}
use lib.ListN.{length}
use Rattle.packing.specs.Conversion.{fitting}
use Rattle.packing.specs.Rows.{◌∪◌, OfficeSheetRow, OfficeSizeRow, OutputRow}
use Rattle.packing.proofs.Refusals.{Refuses, granted, denied, then_row, then_rows, choose_row, fitting_row}
use Rattle.office.specs.Office.{Office}
use Rattle.office.specs.Conversion.{convert}
use Rattle.office.proofs.Refusals.{office_row}
use Rattle.office_conversion.specs.Limits.{in_limits, office_grammar}
use Rattle.office_block.specs.Block.{office_to_block}

limits_row : (o : Office) → Refuses OfficeSizeRow (in_limits o)
unfolding in_limits
limits_row o = choose_row (ltb 32 (convert o).symbols) (denied refl) (choose_row (ltb 256 (length (convert o).rules)) (denied refl) granted)

pub office_to_block_row : (s out : List ℕ) → Refuses (OfficeSheetRow ∪ OfficeSizeRow ∪ OutputRow) (fitting (office_to_block s) out)
unfolding office_to_block office_grammar
office_to_block_row s out = fitting_row out (then_row (then_rows (office_row s) (λ o e. limits_row o)) (λ o e. granted))
