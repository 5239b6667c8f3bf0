-- Reading candidates one by one: a candidate is its two fields taken in a row, and the definition's candidates are the first,
-- then the others. Assumes nothing.
use mathlib.Core.Path.{◌≡◌, refl}
use mathlib.Core.List.{List, [], ◌∷◌, ◌++◌}
use Prim.Native.Nat.{ℕ, zero, suc, ◌+◌, ◌-◌, ◌*◌, ◌≤◌, ◌<◌}
use native.Mathlib.Numerals.{add-one}
use native.Mathlib.Omega.{arith}
use lib.ListN.{length, length-append}
use Rattle.packing.specs.Meaning as M
use Rattle.packing.specs.Meaning.{candidate, word}
use Rattle.packing.specs.Parse.{Parse, parsed, failed, ◌⟫◌}
use Rattle.packing.specs.Source.{Source, field_at}
use Rattle.packing.specs.Utterance.{offered, cost, candidates_from}
use Rattle.packing.proofs.Parse.{through, same_parsed}
use Rattle.packing.proofs.Bounds.{field_at_range, field_at_next}
use Rattle.packing.proofs.Widths.{byte_width}
use Rattle.slots_reader.specs.Placed.{candidate_from}

module _ (src : Source) (W : ℕ) where
  -- the first candidate, then the others
  abbrev others : ℕ → List M.Candidate → M.Candidate → ℕ → Parse (List M.Candidate)
  others n cs (candidate w c) at = candidates_from src W n (suc w.0) at (cs ++ (candidate w c ∷ []))

  candidates_suc : (n least at : ℕ) (cs : List M.Candidate) → candidates_from src W (suc n) least at cs ≡ (candidate_from src W least at ⟫ others n cs)
  unfolding candidates_from candidate_from
  candidates_suc n least at cs = first (field_at src at (offered W least))
    where
      second : (w : ℕ) (x : Parse ℕ) → (x ⟫ λ c at. others n cs (candidate (word w) c) at) ≡ ((x ⟫ λ c at. parsed (candidate (word w) c) at) ⟫ others n cs)
      second w (parsed c at) = refl
      second w (failed m) = refl

      first : (x : Parse ℕ) → (x ⟫ λ w at. field_at src at cost ⟫ λ c at. others n cs (candidate (word w) c) at)
          ≡ ((x ⟫ λ w at. field_at src at cost ⟫ λ c at. parsed (candidate (word w) c) at) ⟫ others n cs)
      first (parsed w at) = second w (field_at src at cost)
      first (failed m) = refl

  -- the turns of the loop over the candidates: the ith is refused; it was read; there are no more
  module _ (count i least at : ℕ) (cs : List M.Candidate) where
    module _ (l : i < count) where
      pub candidates_stop : {n : ℕ} → candidate_from src W least at ≡ failed n → candidates_from src W (count - i) least at cs ≡ failed n
      candidates_stop e = let z : count - i ≡ suc (count - (i + 1)) = omega arith in rw (z, candidates_suc, e)

      pub candidates_go_on : {w c next : ℕ} → candidate_from src W least at ≡ parsed (candidate (word w) c) next
          → candidates_from src W (count - i) least at cs ≡ candidates_from src W (count - (i + 1)) (w + 1) next (cs ++ (candidate (word w) c ∷ []))
      candidates_go_on {w} e = let z : count - i ≡ suc (count - (i + 1)) = omega arith in rw (z, candidates_suc, e, add-one w)

    pub candidates_end : i ≡ count → candidates_from src W (count - i) least at cs ≡ parsed cs at
    unfolding candidates_from
    candidates_end e = let z : count - i ≡ 0 = omega arith in rw z

  -- a candidate's word is below W, and it takes at most 24 bits, or two numbers
  module _ (few : W ≤ 200) where
    abbrev Near : ℕ → M.Candidate → ℕ → Type 0
    Near at (candidate w c) next = (w.0 ≤ W - 1) × (next ≤ at + 24)

    pub candidate_near : (least at : ℕ) {x : M.Candidate} {next : ℕ} → candidate_from src W least at ≡ parsed x next → Near at x next
    unfolding candidate_from
    candidate_near least at e =
        through (field_at src at (offered W least)) _ e λ w a p e. through (field_at src a cost) _ e λ c b q e.
        let n = field_at_next (offered W least) src at 8 (byte_width W (omega arith)) (omega arith) p in
        let m = field_at_next cost src a 16 (omega arith) (omega arith) q in
        same_parsed (Near at) e ((field_at_range (offered W least) src at p).1, omega arith)

    -- n candidates more
    pub candidates_near : (n least at : ℕ) (cs : List M.Candidate) {ds : List M.Candidate} {next : ℕ} → candidates_from src W n least at cs ≡ parsed ds next
        → (length ds ≡ length cs + n) × (next ≤ at + 24 * n)
    unfolding candidates_from
    candidates_near zero least at cs e = same_parsed (λ ds next. (length ds ≡ length cs + 0) × (next ≤ at + 24 * 0)) e (omega arith, omega arith)
    candidates_near (suc n) least at cs e =
        through (field_at src at (offered W least)) _ e λ w a p e. through (field_at src a cost) _ e λ c b q e.
        let h = field_at_next (offered W least) src at 8 (byte_width W (omega arith)) (omega arith) p in
        let k = field_at_next cost src a 16 (omega arith) (omega arith) q in
        let (l, m) = candidates_near n (suc w) b (cs ++ (candidate (word w) c ∷ [])) e in
        (omega (arith, length-append cs (candidate (word w) c ∷ [])), omega arith)
