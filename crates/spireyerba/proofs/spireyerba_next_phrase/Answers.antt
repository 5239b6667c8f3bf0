-- The service's answer is small, and its code is the verdict's; so the demands are met. Assumes nothing.
use Rattle.specimen.specs.Specimen.{string_length}
use Rattle.spireyerba.proofs.Codes.{counted_small, counted_number}
use Rattle.spireyerba.proofs.Strings.{next_small, continues}
use Rattle.spireyerba.proofs.spireyerba_next_phrase.Goals as goal

pub counted_code-requires : goal.counted_code-requires
counted_code-requires c = counted_small string_length (next_small _ _ _ _) c.next_phrase.result c.next_phrase.ensures.0

pub returns : goal.returns
returns c =
    let s = c.next_phrase.ensures in
    let code = counted_number string_length (next_small _ _ _ _) c.next_phrase.result s.0 c.counted_code.ensures in
    record { answered_as = record { code_is = code; left_is = s.1 }; next_phrase = continues _ _ _ _ code s.1 }
