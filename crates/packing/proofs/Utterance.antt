-- An utterance is read from a source exactly if its entries are taken there.
-- Assumes nothing.
use mathlib.Core.Path.{◌≡◌, refl, sym, ap}
use mathlib.Core.List.{List, [], ◌∷◌, ◌++◌, append_assoc, append-nil}
use Prim.Native.Nat.{ℕ, zero, suc}
use lib.ListN.{length}
use Rattle.packing.specs.Meaning.{Candidate, candidate, Utterance, word}
use Rattle.packing.specs.Parse.{parsed}
use Rattle.packing.specs.Source.{Source, field_at, Entry, entry}
use Rattle.packing.specs.Utterance.{
  slot_count,
  candidate_count,
  offered,
  cost,
  candidates_from,
  slot_from,
  slots_from,
  utterance_from,
  candidates_entries,
  slots_entries,
  utterance_entries,
}
use Rattle.packing.proofs.Parse.{through, same_parsed}
use Rattle.packing.proofs.Taken.{Taken, all, more, taken_join, taken_split}

abbrev slot_entries : ℕ → List Candidate → List Entry
slot_entries W cs = entry candidate_count (length cs) ∷ candidates_entries W 0 cs

module _ (src : Source) (W : ℕ) where
  -- n candidates behind the earlier ones
  abbrev Offers : ℕ → ℕ → List Candidate → ℕ → List Candidate → ℕ → Type 0
  Offers least at cs n ds next = (new : List Candidate) × (ds ≡ cs ++ new) × (length new ≡ n) × Taken src at (candidates_entries W least new) next

  candidates_out : (n least at : ℕ) (cs : List Candidate) {ds : List Candidate} {next : ℕ} → candidates_from src W n least at cs ≡ parsed ds next
      → Offers least at cs n ds next
  unfolding candidates_from candidates_entries
  candidates_out zero least at cs e = same_parsed (Offers least at cs 0) e ([], sym (append-nil cs), refl, all)
  candidates_out (suc n) least at cs e =
      through (field_at src at (offered W least)) _ e λ w a p e. through (field_at src a cost) _ e λ c b q e.
      let (new, x, l, t) = candidates_out n (suc w) b (cs ++ (candidate (word w) c ∷ [])) e in
      (candidate (word w) c ∷ new, rw append_assoc at x, ap suc l, more p (more q t))

  candidates_back : (least : ℕ) {at : ℕ} (cs new : List Candidate) {next : ℕ} → Taken src at (candidates_entries W least new) next
      → candidates_from src W (length new) least at cs ≡ parsed (cs ++ new) next
  unfolding candidates_from candidates_entries
  candidates_back least cs [] all = rw append-nil
  candidates_back least cs (candidate w c ∷ new) (more p (more q t)) =
      rw (p, q, candidates_back (suc w.0) (cs ++ (candidate w c ∷ [])) new t, append_assoc)

  slot_out : (at : ℕ) {cs : List Candidate} {next : ℕ} → slot_from src W at ≡ parsed cs next → Taken src at (slot_entries W cs) next
  unfolding slot_from
  slot_out at e =
      through (field_at src at candidate_count) _ e λ n a p e.
      let (new, x, l, t) = candidates_out n 0 a [] e in
      rw (x, l) (more p t)

  slot_back : {at : ℕ} (cs : List Candidate) {next : ℕ} → Taken src at (slot_entries W cs) next → slot_from src W at ≡ parsed cs next
  unfolding slot_from
  slot_back cs (more p t) = rw (p, candidates_back 0 [] cs t)

  -- n slots behind the earlier ones
  abbrev Slots : ℕ → Utterance → ℕ → Utterance → ℕ → Type 0
  Slots at u n v next = (new : Utterance) × (v ≡ u ++ new) × (length new ≡ n) × Taken src at (slots_entries W new) next

  slots_out : (n at : ℕ) (u : Utterance) {v : Utterance} {next : ℕ} → slots_from src W n at u ≡ parsed v next → Slots at u n v next
  unfolding slots_from slots_entries
  slots_out zero at u e = same_parsed (Slots at u 0) e ([], sym (append-nil u), refl, all)
  slots_out (suc n) at u e =
      through (slot_from src W at) _ e λ cs mid p e.
      let (new, x, l, t) = slots_out n mid (u ++ (cs ∷ [])) e in
      (cs ∷ new, rw append_assoc at x, ap suc l, taken_join (slot_out at p) t)

  slots_back : {at : ℕ} (u new : Utterance) {next : ℕ} → Taken src at (slots_entries W new) next → slots_from src W (length new) at u ≡ parsed (u ++ new) next
  unfolding slots_from slots_entries
  slots_back u [] all = rw append-nil
  slots_back {at = at} u (cs ∷ new) {next = next} t =
      let (mid, a, b) = taken_split (slot_entries W cs) t in
      rw (slot_back cs a, slots_back {at = mid} (u ++ (cs ∷ [])) new {next = next} b, append_assoc)

  pub utterance_out : (at : ℕ) {u : Utterance} {next : ℕ} → utterance_from src W at ≡ parsed u next → Taken src at (utterance_entries W u) next
  unfolding utterance_from utterance_entries
  utterance_out at e =
      through (field_at src at slot_count) _ e λ n a p e.
      let (new, x, l, t) = slots_out n a [] e in
      rw (x, l) (more p t)

  pub utterance_back : {at : ℕ} (u : Utterance) {next : ℕ} → Taken src at (utterance_entries W u) next → utterance_from src W at ≡ parsed u next
  unfolding utterance_from utterance_entries
  utterance_back u (more p t) = rw (p, slots_back [] u t)
