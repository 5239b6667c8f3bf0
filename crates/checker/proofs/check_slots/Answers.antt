-- The array's slots are the utterance that was accepted.
use mathlib.Core.Path.{◌≡◌, refl, sym, ap}
use Rattle.std.proofs.Common.{Err, rules}
use Rattle.packing.specs.Utterance.{utterance_block}
use Rattle.packing.specs.Flat.{rules_of}
use Rattle.packing.proofs.Flat.{length_rules_at}
use Rattle.packing.proofs.Told.{accepted_told, refused_told}
use Rattle.utterance_reader.specs.Answer.{utterance_size}
use Rattle.utterance_reader.specs.declared.UtteranceSize.{UtteranceSize}
use Rattle.checker.proofs.Answered.{slots_judged}
use Rattle.checker.proofs.check_slots.Goals as goal

pub returns-in_err-found : goal.returns-in_err-found
returns-in_err-found c =
    let a = c.args in
    let gone : c.from_residual.result ≡ Err c.in_err-found.field-0.0 = search rules in
    rw (gone, refused_told (utterance_block a.words a.heard.now) (utterance_size a.words) c.in_err-found.ensures.0) (refl, tt)

pub returns : goal.returns
returns c =
    let a = c.args in
    let (u, e, z) = accepted_told (utterance_block a.words a.heard.now) (utterance_size a.words) c.in_ok-found.ensures.0 in
    let judged = slots_judged a.words (rules_of a.rules.now a.count) a.heard.now a.reading.now c.read_block.new.slots e c.read_block.ensures.1
    (ap (λ (s : UtteranceSize). s.count) z) (sym (length_rules_at a.rules.now 0 a.count)) in
    rw judged at c.check_walk.ensures
