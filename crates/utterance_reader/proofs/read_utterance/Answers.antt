-- `utterance_reader::read_utterance` meets its contract: n is read, and the slots behind it. Assumes nothing.
use mathlib.Core.Path.{◌≡◌, sym}
use mathlib.Core.List.{[]}
use native.Mathlib.Nat.{zero-add}
use native.Mathlib.Omega.{arith}
use lib.ListN.{length}
use Rattle.packing.specs.Parse.{parsed}
use Rattle.packing.specs.Read.{source_of}
use Rattle.packing.specs.Flat.{slot_numbers}
use Rattle.packing.specs.Utterance.{slot_count, utterance_from}
use Rattle.packing.proofs.Bounds.{field_at_range, field_at_next}
use Rattle.packing.proofs.Flat.{stored_begins}
use Rattle.packing.proofs.Taken.{taken_fits}
use Rattle.packing.proofs.Utterance.{utterance_out}
use Rattle.slots_reader.proofs.Numbers.{valid_size}
use Rattle.slots_reader.proofs.Slots.{slots_near}
use Rattle.utterance_reader.proofs.read_utterance.Goals as goal

pub read_slots-requires : goal.read_slots-requires
read_slots-requires c =
    let a = c.args in
    let src = source_of a.src in
    omega (
      arith,
      field_at_range slot_count src a.at (sym c.in-Ok.ensures),
      field_at_next slot_count src a.at 6 (omega arith) (omega arith) (sym c.in-Ok.ensures),
    )

pub returns : goal.returns
unfolding utterance_from
returns c =
    let a = c.args in
    let src = source_of a.src in
    let (u, e, to, s) = c.in_ok-end.ensures in
    let read : utterance_from src a.words a.at ≡ parsed u c.in_ok-end.end.at = rw (← c.in-Ok.ensures) e in
    let size = valid_size a.words u (taken_fits (utterance_out src a.words a.at read)) in
    let n : length u ≡ c.in-Ok.n = omega (arith, slots_near src a.words (omega arith) c.in-Ok.n c.in-Ok.next [] e) in
    (u, read, rw (to, zero-add, n), rw s (stored_begins a.slots.now (slot_numbers a.words u) (omega arith)))
