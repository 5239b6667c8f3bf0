-- Utterance blocks and sheets under a grammar of W words: document 01, "Packed blocks" and the rows utterance block and
-- sheet of "Where each check stands". Assumes nothing.
use Rattle.std.specs.Prelude.{List, [], ◌∷◌, ◌++◌, ℕ, zero, suc, ◌-◌, eqb, length}
use Rattle.bits.specs.Bits.{pack, ended}
use Rattle.bits.specs.Width.{width_of}
use Rattle.bits.specs.Fields.{bits_of_all}
use Rattle.packing.specs.Meaning.{Candidate, candidate, Utterance, word}
use Rattle.packing.specs.Parse.{Parse, parsed, ◌⟫◌, Verdict, finish}
use Rattle.packing.specs.Source.{Source, bytes, numbers, field_at, within, Entry, entry, values, flds, Field}
use Rattle.packing.specs.Grammar.{block_kind}

-- the fields: the number of slots, the number of candidates, a word from `least` on, a cost
abbrev pub slot_count : Field
slot_count = within 6 1 24 13

abbrev pub candidate_count : Field
candidate_count = within 3 1 7 13

-- words ascend: 15 for a word below `least`, 14 for one that is no word
abbrev pub offered : ℕ → ℕ → Field
offered W least = record { width = width_of (W - 1); least = least; most = W - 1; below = 15; above = 14 }

abbrev pub cost : Field
cost = within 16 0 65535 42

-- n candidates behind the earlier ones
unfoldable pub candidates_from : Source → ℕ → ℕ → ℕ → ℕ → List Candidate → Parse (List Candidate)
candidates_from src W zero least at cs = parsed cs at
candidates_from src W (suc n) least at cs =
    field_at src at (offered W least) ⟫ λ w at. field_at src at cost ⟫ λ c at.
    candidates_from src W n (suc w) at (cs ++ (candidate (word w) c ∷ []))

unfoldable pub slot_from : Source → ℕ → ℕ → Parse (List Candidate)
slot_from src W at = field_at src at candidate_count ⟫ λ n at. candidates_from src W n 0 at []

-- n slots behind the earlier ones
unfoldable pub slots_from : Source → ℕ → ℕ → ℕ → Utterance → Parse Utterance
slots_from src W zero at u = parsed u at
slots_from src W (suc n) at u = slot_from src W at ⟫ λ cs at. slots_from src W n at (u ++ (cs ∷ []))

unfoldable pub utterance_from : Source → ℕ → ℕ → Parse Utterance
utterance_from src W at = field_at src at slot_count ⟫ λ n at. slots_from src W n at []

-- the meaning of an utterance block, and of an utterance sheet
unfoldable pub utterance_block : ℕ → List ℕ → Verdict Utterance
utterance_block W s = finish (ended s) 16 (field_at (bytes 11 s) 0 (block_kind 2 12) ⟫ λ kind at. utterance_from (bytes 11 s) W at)

unfoldable pub utterance_sheet : ℕ → List ℕ → Verdict Utterance
utterance_sheet W s = finish (λ at. eqb at (length s)) 41 (utterance_from (numbers s) W 0)

-- the fields of an utterance with their values, and its block and its sheet
unfoldable pub candidates_entries : ℕ → ℕ → List Candidate → List Entry
candidates_entries W least [] = []
candidates_entries W least (candidate w c ∷ cs) = entry (offered W least) w.0 ∷ entry cost c ∷ candidates_entries W (suc w.0) cs

unfoldable pub slots_entries : ℕ → Utterance → List Entry
slots_entries W [] = []
slots_entries W (cs ∷ u) = (entry candidate_count (length cs) ∷ candidates_entries W 0 cs) ++ slots_entries W u

unfoldable pub utterance_entries : ℕ → Utterance → List Entry
utterance_entries W u = entry slot_count (length u) ∷ slots_entries W u

unfoldable pub block_of_utterance : ℕ → Utterance → List ℕ
block_of_utterance W u = pack (bits_of_all (flds (entry (block_kind 2 12) 2 ∷ utterance_entries W u)))

unfoldable pub sheet_of_utterance : ℕ → Utterance → List ℕ
sheet_of_utterance W u = values (utterance_entries W u)
