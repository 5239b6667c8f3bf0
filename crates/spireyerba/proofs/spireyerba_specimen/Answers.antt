-- The service's answer is small, and its code is the verdict's; so the demands are met. Assumes nothing.
use Rattle.specimen.specs.Specimen.{string_length}
use Rattle.spireyerba.proofs.Codes.{counted_small, counted_number}
use Rattle.spireyerba.proofs.Strings.{specimen_small, specifies}
use Rattle.spireyerba.proofs.spireyerba_specimen.Goals as goal

pub counted_code-requires : goal.counted_code-requires
counted_code-requires c = counted_small string_length (specimen_small _ _ _) c.specimen.result c.specimen.ensures.0

pub returns : goal.returns
returns c =
    let s = c.specimen.ensures in
    let code = counted_number string_length (specimen_small _ _ _) c.specimen.result s.0 c.counted_code.ensures in
    record { answered_as = record { code_is = code; left_is = s.1 }; specimen = specifies _ _ _ code s.1 }
