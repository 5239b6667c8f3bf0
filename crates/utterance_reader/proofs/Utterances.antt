-- How far an utterance reaches, and what its readers promise of it. Assumes nothing.
use mathlib.Core.Path.{◌≡◌, refl}
use mathlib.Core.List.{List, []}
use Prim.Native.Nat.{ℕ, ◌+◌, ◌≤◌}
use native.Mathlib.Omega.{arith}
use Rattle.std.specs.Prelude.{Ok}
use Rattle.packing.specs.Meaning.{Utterance}
use Rattle.packing.specs.Parse.{parsed, Verdict, accepted, ◌then◌}
use Rattle.packing.specs.Read.{as_verdict}
use Rattle.packing.specs.Source.{Source, field_at}
use Rattle.packing.specs.Utterance.{slot_count, utterance_from}
use Rattle.packing.specs.Flat.{slot_numbers, Begins, SlotsIn}
use Rattle.packing.specs.Valid.{ValidUtterance}
use Rattle.packing.proofs.Parse.{through}
use Rattle.packing.proofs.Bounds.{field_at_range, field_at_next}
use Rattle.slots_reader.proofs.Numbers.{valid_size}
use Rattle.slots_reader.proofs.Slots.{slots_near}
use Rattle.utterance_reader.specs.Answer.{utterance_size, Sized}
use Rattle.utterance_reader.specs.declared.UtteranceSize.{UtteranceSize}

-- it takes at most 6 + 24 * 171 bits
module _ (src : Source) (W : ℕ) (at : ℕ) where
  pub utterance_near : W ≤ 200 → {u : Utterance} {next : ℕ} → utterance_from src W at ≡ parsed u next → next ≤ at + 4110
  unfolding utterance_from
  utterance_near few e =
      through (field_at src at slot_count) _ e λ n a p e.
      let h = field_at_range slot_count src at p in
      let k = field_at_next slot_count src at 6 (omega arith) (omega arith) p in
      omega (arith, slots_near src W few n a [] e)

-- where it is accepted
pub promised_slots : (W : ℕ) {v : Verdict Utterance} (after : List ℕ) {u : Utterance} {z : UtteranceSize} → v ≡ accepted u → ValidUtterance W u
    → z ≡ utterance_size W u → Begins (slot_numbers W u) after
    → (as_verdict (Ok z) ≡ (v then λ u. accepted (utterance_size W u))) × SlotsIn W v after × Sized (Ok z)
promised_slots W after {u} e valid f h = rw (e, f) (refl, h, valid_size W u valid)
