-- `slots_reader::read_slot` meets its contract: the count is stored, and the candidates behind it. Assumes nothing.
use mathlib.Core.Path.{sym}
use mathlib.Core.List.{[]}
use native.Mathlib.Omega.{arith}
use lib.ListN.{length-set}
use Rattle.packing.specs.Read.{source_of}
use Rattle.packing.specs.Utterance.{candidate_count, slot_from}
use Rattle.packing.proofs.Bounds.{field_at_range, field_at_next}
use Rattle.slots_reader.proofs.Candidates.{candidates_near}
use Rattle.slots_reader.proofs.Slots.{slot_placed}
use Rattle.slots_reader.proofs.read_slot.Goals as goal

pub read_candidates-requires : goal.read_candidates-requires
read_candidates-requires c =
    let a = c.args in
    let src = source_of a.src in
    let n = field_at_range candidate_count src a.p.at (sym c.in-Ok.ensures) in
    let m = field_at_next candidate_count src a.p.at 3 (omega arith) (omega arith) (sym c.in-Ok.ensures) in
    simp length-set (omega arith)

pub returns : goal.returns
unfolding slot_from
returns c =
    let a = c.args in
    let src = source_of a.src in
    rw (← c.in-Ok.ensures)
    (slot_placed a.words _ _ _ _ _ c.read_candidates.result c.read_candidates.ensures
    (λ cs next e. omega (arith, candidates_near src a.words (omega arith) c.in-Ok.n 0 c.in-Ok.at [] e)))
