-- How far reading goes and how many numbers meanings have: bounds for the code that reads and writes them.
-- Assumes nothing.
use mathlib.Core.Path.{◌≡◌, refl}
use mathlib.Core.Bool.{Bool, true, false}
use mathlib.Core.List.{List, [], ◌∷◌}
use Prim.Native.Nat.{ℕ, suc, ◌+◌, ◌*◌, ◌≤◌}
use native.Mathlib.Omega.{arith}
use lib.ListN.{length, length-append, length-map}
use Rattle.packing.specs.Meaning.{MarkedRule, marked, Candidate, candidate, Utterance}
use Rattle.packing.specs.Parse.{parsed}
use Rattle.packing.specs.Source.{Source, bytes, numbers, field_at, values, Field}
use Rattle.packing.specs.Grammar.{numbers_per_rule, rules_entries, marked_rules_entries}
use Rattle.packing.specs.Utterance.{candidates_entries, slots_entries}
use Rattle.packing.specs.Valid.{InRange, Fits}
use Rattle.packing.specs.declared.Rule as R
use Rattle.packing.specs.declared.Rule.TheVariants.{Pair, Word}
use Rattle.packing.proofs.Entries.{each_right}
use Rattle.packing.proofs.Taking.{field_at_bytes_out, field_at_numbers_out}

-- a field that was taken is in its range, and the next place is at most b further, where a width and a number are at most b
module _ (f : Field) where
  pub field_at_range : (src : Source) (at : ℕ) {v next : ℕ} → field_at src at f ≡ parsed v next → InRange f v
  field_at_range (bytes missing s) at e = (field_at_bytes_out missing s at f e).3
  field_at_range (numbers s) at e = (field_at_numbers_out s at f e).3

  pub field_at_next : (src : Source) (at b : ℕ) {v next : ℕ} → f.width ≤ b → 1 ≤ b → field_at src at f ≡ parsed v next → (at ≤ next) × (next ≤ at + b)
  field_at_next (bytes missing s) at b w o e = let n = (field_at_bytes_out missing s at f e).2 in (omega arith, omega arith)
  field_at_next (numbers s) at b w o e = let n = (field_at_numbers_out s at f e).2 in (omega arith, omega arith)

-- five numbers for each rule
pub length_rules : (S W : ℕ) (rs : List R.Rule) → length (values (rules_entries S W rs)) ≡ 5 * length rs
unfolding rules_entries
length_rules S W [] = refl
length_rules S W (Pair h x y w ∷ rs) = omega (arith, length_rules S W rs)
length_rules S W (Word h x w ∷ rs) = omega (arith, length_rules S W rs)

-- and a mark, where rules bear marks
pub length_marked : (marking : Bool) (S W : ℕ) (rs : List MarkedRule)
    → length (values (marked_rules_entries marking S W rs)) ≡ numbers_per_rule marking * length rs
unfolding marked_rules_entries
length_marked false S W [] = refl
length_marked true S W [] = refl
length_marked false S W (marked (Pair h x y w) m ∷ rs) = omega (arith, length_marked false S W rs)
length_marked false S W (marked (Word h x w) m ∷ rs) = omega (arith, length_marked false S W rs)
length_marked true S W (marked (Pair h x y w) m ∷ rs) = omega (arith, length_marked true S W rs)
length_marked true S W (marked (Word h x w) m ∷ rs) = omega (arith, length_marked true S W rs)

-- two for each candidate, and one for each slot
pub length_candidates : (W least : ℕ) (cs : List Candidate) → length (candidates_entries W least cs) ≡ 2 * length cs
unfolding candidates_entries
length_candidates W least [] = refl
length_candidates W least (candidate w c ∷ cs) = omega (arith, length_candidates W (suc w.0) cs)

-- so at most fifteen for a slot
pub length_slots : (W : ℕ) (u : Utterance) → Fits (slots_entries W u) → length (values (slots_entries W u)) ≤ 15 * length u
unfolding slots_entries
length_slots W [] h = omega arith
length_slots W (cs ∷ u) ((a, b), h) =
    let es = candidates_entries W 0 cs in
    let n = length_candidates W 0 cs in
    let m = length_slots W u (each_right InRange es (slots_entries W u) h) in
    simp (length-map, length-append) (omega (arith, rw length-map at m))
