-- The numbers of candidates and slots: those of the earlier ones, then those of the last. Assumes nothing.
use mathlib.Core.Path.{◌≡◌, refl, sym, ap, ◌∙◌}
use mathlib.Core.List.{List, [], ◌∷◌, ◌++◌, append_assoc, append-nil}
use Prim.Native.Nat.{ℕ, suc, ◌+◌, ◌*◌, ◌≤◌}
use native.Mathlib.Omega.{arith}
use lib.ListN.{length, length-map}
use Rattle.packing.specs.Meaning.{Candidate, candidate, Utterance, word}
use Rattle.packing.specs.Source.{Entry, values, value_of}
use Rattle.packing.specs.Utterance.{candidates_entries, slots_entries, utterance_entries}
use Rattle.packing.specs.Flat.{slot_numbers}
use Rattle.packing.specs.Store.{store_all}
use Rattle.packing.specs.Valid.{ValidUtterance}
use Rattle.packing.specs.declared.Word.{Word}
use Rattle.packing.proofs.Bounds.{length_candidates, length_slots}
use Rattle.packing.proofs.Store.{stored_next}
use Rattle.slots_reader.specs.Placed.{candidate_numbers, one_slot_numbers}

values_append : (es fs : List Entry) → values (es ++ fs) ≡ values es ++ values fs
values_append [] fs = refl
values_append (e ∷ es) fs = ap (λ (l : List ℕ). value_of e ∷ l) (values_append es fs)

-- from whichever word on
more_candidates : (W least : ℕ) (cs : List Candidate) (w : Word) (c : ℕ)
    → values (candidates_entries W least (cs ++ (candidate w c ∷ []))) ≡ values (candidates_entries W least cs) ++ (w.0 ∷ c ∷ [])
unfolding candidates_entries
more_candidates W least [] w c = refl
more_candidates W least (candidate v d ∷ cs) w c = ap (λ (l : List ℕ). v.0 ∷ d ∷ l) (more_candidates W (suc v.0) cs w c)

candidate_more : (W : ℕ) (cs : List Candidate) (w : Word) (c : ℕ)
    → candidate_numbers W (cs ++ (candidate w c ∷ [])) ≡ candidate_numbers W cs ++ (w.0 ∷ c ∷ [])
candidate_more W = more_candidates W 0

pub length_numbers : (W : ℕ) (cs : List Candidate) → length (candidate_numbers W cs) ≡ 2 * length cs
length_numbers W cs = rw length-map (length_candidates W 0 cs)

-- a candidate stored behind the earlier ones
pub candidate_stored : (before : List ℕ) (to W i w c : ℕ) {between after : List ℕ} (cs : List Candidate) → length cs ≡ i
    → between ≡ store_all before to (candidate_numbers W cs) → after ≡ store_all between (to + 2 * i) (w ∷ c ∷ [])
    → after ≡ store_all before to (candidate_numbers W (cs ++ (candidate (word w) c ∷ [])))
candidate_stored before to W i w c cs e h k =
    rw (candidate_more W cs (word w) c) (stored_next before to (candidate_numbers W cs) (w ∷ c ∷ []) h (omega (arith, length_numbers W cs)) k refl).0

-- a slot before others
pub slot_first : (W : ℕ) (cs : List Candidate) (u : Utterance) → slot_numbers W (cs ∷ u) ≡ one_slot_numbers W cs ++ slot_numbers W u
unfolding slots_entries
slot_first W cs u = ap (λ (l : List ℕ). length cs ∷ l) (values_append (candidates_entries W 0 cs) (slots_entries W u))

pub slot_more : (W : ℕ) (u : Utterance) (cs : List Candidate) → slot_numbers W (u ++ (cs ∷ [])) ≡ slot_numbers W u ++ one_slot_numbers W cs
unfolding slots_entries
slot_more W [] cs = slot_first W cs [] ∙ append-nil (one_slot_numbers W cs)
slot_more W (ds ∷ u) cs =
    slot_first W ds (u ++ (cs ∷ [])) ∙ ap (λ (l : List ℕ). one_slot_numbers W ds ++ l) (slot_more W u cs)
    ∙ sym (append_assoc (one_slot_numbers W ds) (slot_numbers W u) (one_slot_numbers W cs))
    ∙ ap (λ (l : List ℕ). l ++ one_slot_numbers W cs) (sym (slot_first W ds u))

-- a slot stored behind the earlier ones
pub slot_stored : (before : List ℕ) {between after : List ℕ} {to : ℕ} (W : ℕ) (u : Utterance) (cs : List Candidate) → to ≡ 0 + length (slot_numbers W u)
    → between ≡ store_all before 0 (slot_numbers W u) → after ≡ store_all between to (one_slot_numbers W cs)
    → after ≡ store_all before 0 (slot_numbers W (u ++ (cs ∷ [])))
slot_stored before W u cs e h k = rw (slot_more W u cs) (stored_next before 0 (slot_numbers W u) (one_slot_numbers W cs) h e k refl).0

-- from 1 to 24 slots of at most 15 numbers each
pub valid_size : (W : ℕ) (u : Utterance) → ValidUtterance W u → (1 ≤ length u) × (length u ≤ 24) × (length (slot_numbers W u) ≤ 15 * length u)
unfolding utterance_entries
valid_size W u ((least, most), slots) = (least, most, length_slots W u slots)
