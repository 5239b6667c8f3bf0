-- The service's answer is small, and its code is the verdict's; so the demands are met. Assumes nothing.
use lib.ListN.{length}
use Rattle.spireyerba.proofs.Small.{small_grammar_block}
use Rattle.spireyerba.proofs.Codes.{counted_small, counted_number}
use Rattle.spireyerba.proofs.Demands.{grammar_to_block_lem}
use Rattle.spireyerba.proofs.spireyerba_grammar_to_block.Goals as goal

pub counted_code-requires : goal.counted_code-requires
counted_code-requires c = counted_small length (small_grammar_block _ _) c.grammar_to_block.result c.grammar_to_block.ensures.writes.0

pub returns : goal.returns
returns c =
    let answered = c.grammar_to_block.ensures in
    let code = counted_number length (small_grammar_block _ _) c.grammar_to_block.result answered.writes.0 c.counted_code.ensures in
    record {
      answered_as = record { code_is = code; left_is = answered.writes.1 };
      grammar_to_block = grammar_to_block_lem _ _ code answered.writes.1 answered.writes.0 answered.turns_back;
    }
