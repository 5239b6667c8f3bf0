-- What the reader of an utterance's slots promises of document 01's utterance block or sheet: what was read stands in the array, and the
-- answer says where it ends. Assumes nothing. Nobody need believe this page: no service's promise names it.
use Rattle.std.specs.Prelude.{◌≡◌, List, ℕ, Result, Ok, Err}
use Rattle.packing.specs.Meaning.{Utterance}
use Rattle.packing.specs.Parse.{Parse, parsed, failed}
use Rattle.packing.specs.Flat.{slot_numbers, Begins}
use Rattle.packing.specs.Refusal.{number}
use Rattle.packing.specs.declared.refusal.Refusal.{Refusal}
use Rattle.utterance_reader.specs.Answer.{utterance_size}
use Rattle.utterance_reader.specs.declared.UtteranceSize.{UtteranceSize}

-- the slots that were parsed stand at the front; a refusal is answered
abbrev pub SlotsAs : ℕ → List ℕ → Parse Utterance → Result (UtteranceSize × ℕ) Refusal → Type 0
SlotsAs W after x (Ok (z, next)) = (u : Utterance) × (x ≡ parsed u next) × (z ≡ utterance_size W u) × Begins (slot_numbers W u) after
SlotsAs W after x (Err r) = x ≡ failed (number r)
