-- The service's answer is small, and its code is the verdict's; so the demands are met. Assumes nothing.
use lib.ListN.{length}
use Rattle.spireyerba.proofs.Small.{small_office_block}
use Rattle.spireyerba.proofs.Codes.{counted_small, counted_number}
use Rattle.spireyerba.proofs.Demands.{office_to_block_lem}
use Rattle.spireyerba.proofs.spireyerba_office_to_block.Goals as goal

pub counted_code-requires : goal.counted_code-requires
counted_code-requires c = counted_small length (small_office_block _ _) c.office_to_block.result c.office_to_block.ensures.0

pub returns : goal.returns
returns c =
    let answered = c.office_to_block.ensures in
    let code = counted_number length (small_office_block _ _) c.office_to_block.result answered.0 c.counted_code.ensures in
    record {
      answered_as = record { code_is = code; left_is = answered.1 };
      office_to_block = office_to_block_lem _ _ code answered.1;
    }
