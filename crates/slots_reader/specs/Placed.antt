-- What the inner readers promise of a part of document 01's utterance block or sheet: what was read stands in the array, and the answer
-- says where it ends. Assumes nothing. Nobody need believe this page: no service's promise names it.
use Rattle.std.specs.Prelude.{◌≡◌, List, ◌∷◌, ℕ, ◌+◌, length, Result, Ok, Err}
use Rattle.packing.specs.Meaning.{Candidate, candidate, word}
use Rattle.packing.specs.Parse.{Parse, parsed, failed, ◌⟫◌}
use Rattle.packing.specs.Source as S
use Rattle.packing.specs.Utterance.{offered, cost, candidates_entries}
use Rattle.packing.specs.Store.{store_all}
use Rattle.packing.specs.Refusal.{number}
use Rattle.packing.specs.declared.refusal.Refusal.{Refusal}
use Rattle.slots_reader.specs.declared.Candidate as C
use Rattle.slots_reader.specs.declared.Places.{Places}

-- one candidate: a word from `least` on, and its cost
unfoldable pub candidate_from : S.Source → ℕ → ℕ → ℕ → Parse Candidate
candidate_from src W least at = S.field_at src at (offered W least) ⟫ λ w at. S.field_at src at cost ⟫ λ c at. parsed (candidate (word w) c) at

abbrev pub candidate_of : C.Candidate → Candidate
candidate_of c = candidate (word c.word) c.cost

-- the numbers of some candidates, and of a slot
abbrev pub candidate_numbers : ℕ → List Candidate → List ℕ
candidate_numbers W cs = S.values (candidates_entries W 0 cs)

abbrev pub one_slot_numbers : ℕ → List Candidate → List ℕ
one_slot_numbers W cs = length cs ∷ candidate_numbers W cs

-- a part that was parsed, of which `numbers` gives the numbers, is stored from place `to` on; a refusal is answered
abbrev pub PlacedAs : {A : Type 0} → (A → List ℕ) → List ℕ → ℕ → List ℕ → Parse A → Result Places Refusal → Type 0
PlacedAs numbers before to after x (Ok p) = (a : _) × (x ≡ parsed a p.at) × (p.to ≡ to + length (numbers a)) × (after ≡ store_all before to (numbers a))
PlacedAs numbers before to after x (Err r) = x ≡ failed (number r)
