-- The numbers read stand in front, so the weight of the derivation that has them is that of the reading's walk.
use mathlib.Core.Path.{◌≡◌, refl}
use Rattle.std.proofs.Common.{Err, rules}
use Rattle.packing.specs.Reading.{reading_from}
use Rattle.reading_reader.proofs.BlockInversion.{parsed_told, failed_told}
use Rattle.packing.specs.Flat.{rules_of, slots_of}
use Rattle.parse_stack.specs.Stack.{option_of}
use Rattle.checker.proofs.Answered.{walk_judged}
use Rattle.checker.proofs.check_walk.Goals as goal

pub returns-in_err-weight : goal.returns-in_err-weight
returns-in_err-weight c =
    let a = c.args in
    let gone : c.from_residual.result ≡ Err c.in_err-weight.field-0.0 = search rules in
    rw (gone, failed_told (reading_from a.n a.count a.reading.now) c.in_err-weight.ensures.0) (refl, tt)

pub returns : goal.returns
returns c =
    let a = c.args in
    let (d, e, w) = parsed_told (reading_from a.n a.count a.reading.now) c.in_ok-weight.ensures.0 in
    walk_judged a.n a.count (rules_of a.rules.now a.count) (slots_of a.slots.now a.n 0)
    a.reading.now c.read_reading.new.walk (option_of c.weight_of-own.result) c.judge.result e c.read_reading.ensures.1 c.weight_of-own.ensures
    (rw w c.judge.ensures)
