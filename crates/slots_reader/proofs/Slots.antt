-- Reading slots one by one: the definition's slots are the first, then the others. Assumes nothing.
use mathlib.Core.Path.{◌≡◌}
use mathlib.Core.List.{List, [], ◌∷◌, ◌++◌}
use Rattle.std.specs.Prelude.{Result, Ok, Err}
use Prim.Native.Nat.{ℕ, zero, suc, ◌+◌, ◌-◌, ◌*◌, ◌≤◌, ◌<◌}
use native.Mathlib.Omega.{arith}
use lib.ListN.{length, set, length-append}
use Rattle.packing.specs.Meaning.{Candidate, Utterance}
use Rattle.packing.specs.Parse.{Parse, parsed, failed}
use Rattle.packing.specs.Source.{Source, field_at}
use Rattle.packing.specs.Utterance.{candidate_count, slot_from, slots_from}
use Rattle.packing.specs.Store.{store_all}
use Rattle.packing.proofs.Parse.{through, same_parsed}
use Rattle.packing.proofs.Bounds.{field_at_range, field_at_next}
use Rattle.packing.specs.declared.refusal.Refusal.{Refusal}
use Rattle.slots_reader.specs.Placed.{candidate_numbers, one_slot_numbers, PlacedAs}
use Rattle.slots_reader.specs.declared.Places.{Places}
use Rattle.slots_reader.proofs.Candidates.{candidates_near}

-- candidates that are placed behind their number are a slot
pub slot_placed : (W : ℕ) (before after : List ℕ) (to n : ℕ) (x : Parse (List Candidate)) (r : Result Places Refusal)
    → PlacedAs (candidate_numbers W) (set before to n) (to + 1) after x r → ((cs : List Candidate) (next : ℕ) → x ≡ parsed cs next → length cs ≡ n)
    → PlacedAs (one_slot_numbers W) before to after x r
unfolding store_all
slot_placed W before after to n x (Ok p) (cs, e, t, h) size = (cs, e, omega arith, rw (size cs p.at e) h)
slot_placed W before after to n x (Err r) e size = e

module _ (src : Source) (W : ℕ) where
  -- the turns of the loop over the slots: the ith is refused; it was read; there are no more
  module _ (count i at : ℕ) (u : Utterance) where
    module _ (l : i < count) where
      pub slots_stop : {n : ℕ} → slot_from src W at ≡ failed n → slots_from src W (count - i) at u ≡ failed n
      unfolding slots_from
      slots_stop e = let z : count - i ≡ suc (count - (i + 1)) = omega arith in rw (z, e)

      pub slots_go_on : {cs : List Candidate} {next : ℕ} → slot_from src W at ≡ parsed cs next
          → slots_from src W (count - i) at u ≡ slots_from src W (count - (i + 1)) next (u ++ (cs ∷ []))
      unfolding slots_from
      slots_go_on e = let z : count - i ≡ suc (count - (i + 1)) = omega arith in rw (z, e)

    pub slots_end : i ≡ count → slots_from src W (count - i) at u ≡ parsed u at
    unfolding slots_from
    slots_end e = let z : count - i ≡ 0 = omega arith in rw z

  -- a slot takes at most 3 + 7 * 24 bits, or 15 numbers
  module _ (few : W ≤ 200) where
    pub slot_near : (at : ℕ) {cs : List Candidate} {next : ℕ} → slot_from src W at ≡ parsed cs next → (length cs ≤ 7) × (next ≤ at + 171)
    unfolding slot_from
    slot_near at e =
        through (field_at src at candidate_count) _ e λ n a p e.
        let h = field_at_range candidate_count src at p in
        let k = field_at_next candidate_count src at 3 (omega arith) (omega arith) p in
        let (l, m) = candidates_near src W few n 0 a [] e in
        (omega arith, omega arith)

    pub slots_near : (n at : ℕ) (u : Utterance) {v : Utterance} {next : ℕ} → slots_from src W n at u ≡ parsed v next
        → (length v ≡ length u + n) × (next ≤ at + 171 * n)
    unfolding slots_from
    slots_near zero at u e = same_parsed (λ v next. (length v ≡ length u + 0) × (next ≤ at + 171 * 0)) e (omega arith, omega arith)
    slots_near (suc n) at u e =
        through (slot_from src W at) _ e λ cs a p e.
        let (l, m) = slots_near n a (u ++ (cs ∷ [])) e in
        (omega (arith, length-append u (cs ∷ [])), omega (arith, slot_near at p))
