-- The service's answer is small, and its code is the verdict's; so the demands are met. Assumes nothing.
use lib.ListN.{length}
use Rattle.spireyerba.proofs.Small.{margins_small}
use Rattle.spireyerba.proofs.Codes.{counted_small, counted_number}
use Rattle.spireyerba.proofs.WordMargins.{margins_told}
use Rattle.spireyerba.proofs.spireyerba_word_margins.Goals as goal

pub counted_code-requires : goal.counted_code-requires
counted_code-requires c =
    let a = c.args in
    counted_small length (margins_small a.grammar.now a.utterance.now (length a.work.now) (length a.out.now))
    c.word_margins.result c.word_margins.ensures.lists.answer

pub returns : goal.returns
returns c =
    let a = c.args in
    let e = c.word_margins.ensures.lists in
    let small = margins_small a.grammar.now a.utterance.now (length a.work.now) (length a.out.now) in
    let code = counted_number length small c.word_margins.result e.answer c.counted_code.ensures in
    record {
      listed_as = record { code_is = code; work_is = e.work_is; output_is = e.output_is };
      word_margins = margins_told a.grammar.now a.utterance.now a.work.now a.out.now code e.work_is e.output_is;
    }
