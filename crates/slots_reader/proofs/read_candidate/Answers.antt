-- `slots_reader::read_candidate` meets its contract: the cost's place is near. Assumes nothing.
use mathlib.Core.Path.{sym}
use native.Mathlib.Omega.{arith}
use Rattle.packing.specs.Read.{source_of}
use Rattle.packing.specs.Utterance.{offered}
use Rattle.packing.proofs.Bounds.{field_at_next}
use Rattle.packing.proofs.Widths.{byte_width}
use Rattle.slots_reader.proofs.read_candidate.Goals as goal

pub field_at-read-requires-2 : goal.field_at-read-requires-2
field_at-read-requires-2 c =
    let a = c.args in
    let word = rw c.word_field.ensures.0 at c.in-Ok.ensures in
    omega (arith, field_at_next (offered a.words a.least) (source_of a.src) a.at 8 (byte_width a.words (omega arith)) (omega arith) (sym word))
