-- The service's answer is small, and its code is the verdict's; so the demands are met. Assumes nothing.
use lib.ListN.{length}
use Rattle.spireyerba.proofs.Small.{small_utterance_sheet}
use Rattle.spireyerba.proofs.Codes.{counted_small, counted_number}
use Rattle.spireyerba.proofs.Demands.{utterance_to_sheet_lem}
use Rattle.spireyerba.proofs.spireyerba_utterance_to_sheet.Goals as goal

pub counted_code-requires : goal.counted_code-requires
counted_code-requires c = counted_small length (small_utterance_sheet _ _ _) c.utterance_to_sheet.result c.utterance_to_sheet.ensures.writes.0

pub returns : goal.returns
returns c =
    let answered = c.utterance_to_sheet.ensures in
    let code = counted_number length (small_utterance_sheet _ _ _) c.utterance_to_sheet.result answered.writes.0 c.counted_code.ensures in
    record {
      answered_as = record { code_is = code; left_is = answered.writes.1 };
      utterance_to_sheet = utterance_to_sheet_lem _ _ _ code answered.writes.1 answered.writes.0 answered.turns_back;
    }
