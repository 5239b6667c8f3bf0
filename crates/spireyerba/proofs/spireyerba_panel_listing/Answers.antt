-- The service's answer is small, and its code is the verdict's; so the demands are met. Assumes nothing.
use lib.ListN.{length}
use Rattle.spireyerba.proofs.Small.{panel_small}
use Rattle.spireyerba.proofs.Codes.{counted_small, counted_number}
use Rattle.spireyerba.proofs.Demands.{panel_lists}
use Rattle.spireyerba.proofs.spireyerba_panel_listing.Goals as goal

pub counted_code-requires : goal.counted_code-requires
counted_code-requires c = counted_small length (panel_small _ _ _ _ _) c.listing_within.result c.listing_within.ensures.lists.answer

pub returns : goal.returns
returns c =
    let answered = c.listing_within.ensures.lists in
    let code = counted_number length (panel_small _ _ _ _ _) c.listing_within.result answered.answer c.counted_code.ensures in
    record {
      listed_as = record { code_is = code; work_is = answered.work_is; output_is = answered.output_is };
      panel_listing = panel_lists _ _ _ _ _ code answered.work_is answered.output_is;
    }
