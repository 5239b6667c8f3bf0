-- What the readers of utterance blocks and sheets answer: document 01, "Packed blocks" and the rows utterance block and sheet of "Where
-- each check stands". Assumes nothing. Nobody need believe this page: no service's promise names it.
use Rattle.std.specs.Prelude.{ℕ, ◌*◌, ◌≤◌, length, Result, Ok, Err}
use Rattle.packing.specs.Meaning.{Utterance}
use Rattle.packing.specs.Flat.{slot_numbers}
use Rattle.packing.specs.declared.refusal.Refusal.{Refusal}
use Rattle.utterance_reader.specs.declared.UtteranceSize.{UtteranceSize}

-- the number of slots and of the numbers that they take in the array
abbrev pub utterance_size : ℕ → Utterance → UtteranceSize
utterance_size W u = record { count = length u; numbers = length (slot_numbers W u) }

-- from 1 to 24 slots, each of at most 15 numbers: its count, and 7 words and costs
abbrev pub Sized : Result UtteranceSize Refusal → Type 0
Sized (Ok s) = (1 ≤ s.count) × (s.count ≤ 24) × (s.numbers ≤ 15 * s.count)
Sized (Err r) = Unit {0}
