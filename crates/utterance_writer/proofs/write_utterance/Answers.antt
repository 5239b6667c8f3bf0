-- The block is written where its length, told by how many numbers the slots take, fits.
use mathlib.Core.Path.{refl, ap, ◌∙◌}
use native.Mathlib.Omega.{arith}
use borrow.Author.Tests.{lt-ltb, le-ltb}
use lib.ListN.{length}
use Rattle.packing.specs.Parse.{accepted}
use Rattle.packing.specs.Conversion.{fitting}
use Rattle.sheet_writer.specs.Arrays.{utterance_fields, block_of}
use Rattle.utterance_writer.proofs.Slots.{block_length, slots_small}
use Rattle.utterance_writer.proofs.write_utterance.Goals as goal

pub returns-then-out-length : goal.returns-then-out-length
unfolding fitting
returns-then-out-length c =
    let a = c.args in
    let n = c.utterance_length-length.ensures ∙ block_length a.words a.slots.now a.n a.numbers c.requires.5 in
    rw (lt-ltb (length a.out.now) (length (block_of (utterance_fields a.words a.n a.slots.now))) (omega (arith, n, c.if-out-length.true))) (refl, refl)

pub write_fields-requires : goal.write_fields-requires
write_fields-requires c =
    let a = c.args in
    let n = block_length a.words a.slots.now a.n a.numbers c.requires.5 in
    omega (arith, n, slots_small a.words a.slots.now a.n a.numbers c.requires.5 (omega arith) (omega arith) (omega arith))

pub returns : goal.returns
unfolding fitting
returns c =
    let a = c.args in
    let n = c.utterance_length-length.ensures ∙ block_length a.words a.slots.now a.n a.numbers c.requires.5 in
    rw (le-ltb (length a.out.now) (length (block_of (utterance_fields a.words a.n a.slots.now))) (omega (arith, n, c.if-out-length.false)))
    (ap accepted n, c.write_fields.ensures)
