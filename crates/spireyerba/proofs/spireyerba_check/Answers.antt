-- The check's answer is small, and its code is the verdict's; so the demands are met. Assumes nothing.
use mathlib.Core.Path.{refl}
use Rattle.checker.specs.Check.{check}
use Rattle.spireyerba.proofs.Small.{check_small}
use Rattle.spireyerba.proofs.Codes.{told_number}
use Rattle.spireyerba.proofs.Demands.{checks}
use Rattle.spireyerba.proofs.spireyerba_check.Goals as goal

pub returns : goal.returns
returns c =
    let a = c.args in
    let answered = c.check.ensures in
    let code = told_number (λ t. 0) (λ t. tt) (λ u. 0) (λ t. refl) (check a.grammar.now a.utterance.now a.reading.now) answered.value
    (check_small _ _ _) c.checked_code.ensures in
    record { value = code; check = checks _ _ _ (λ i. (c.type_inv.reading i).fits) code answered.value answered.variant }
