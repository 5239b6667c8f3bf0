-- The demands of the specimen and of the next phrase, from the equations that they promise, and back. Assumes nothing.
use mathlib.Core.Path.{◌≡◌, refl, sym, ap, ◌∙◌}
use mathlib.Core.Logic.{inl, inr}
use mathlib.Core.Option.{Option, none, some}
use mathlib.Core.List.{List}
use Prim.Native.Nat.{ℕ}
use native.Mathlib.Omega.{arith}
use lib.IntN.{ℤ, pos}
use lib.ListN.{length}
use Rattle.packing.specs.Meaning.{Grammar}
use Rattle.packing.specs.Parse.{Verdict, accepted, ◌then◌}
use Rattle.packing.specs.Rows.{◌∪◌, GrammarBlockRow, SpecimenRow}
use Rattle.packing.proofs.Parse.{refused≢accepted, accepted_is}
use Rattle.packing.proofs.Refusals.{Refuses, granted, denied}
use Rattle.packing.proofs.Whole.{grammar_block_out}
use Rattle.phrases.proofs.Least.{LeastOrNone, nothing, first, least_unique}
use Rattle.specimen.specs.Conditions.{asked}
use Rattle.specimen.specs.Specimen.{specimen, string_length, output_of}
use Rattle.specimen.proofs.Asked.{asked_out, asked_row}
use Rattle.next_phrase.specs.NextPhrase.{next}
use Rattle.codes.specs.Code.{code_of}
use Rattle.spireyerba.specs.Demands as D
use Rattle.codes.specs.Demand1.{Demand1, answers, refuses}
use Rattle.spireyerba.specs.Demands.{LeastWritten}
use Rattle.spireyerba.proofs.Codes.{Small}
use Rattle.spireyerba.proofs.Searches.{Search, first_search, next_of, next_search}
use Rattle.spireyerba.proofs.Small.{strings_small}

module _ (most : ℕ) (grammar : List ℕ) (n : ℕ) (out : List ℕ) {find : Grammar → Option (List ℕ)} (search : Search n find) where
  abbrev Answered : List ℕ → Verdict Grammar → ℤ → Type 0
  Answered out' v code = Demand1 v (λ g m. LeastWritten (search.Sought g) n out out' m) (GrammarBlockRow ∪ SpecimenRow) (out' ≡ out) code

  written : (g : Grammar) {out' : List ℕ} {o : Option (List ℕ)} → LeastOrNone (search.Sought g) o → out' ≡ output_of (accepted o) out
      → LeastWritten (search.Sought g) n out out' (string_length o)
  written g (nothing never) w = inr (never, refl, w)
  written g (first {s} (p, l)) w = let k = search.as_long g s p in inl (s, (p, l), k, rw k at w)

  strings_demand : {code : ℤ} {out' : List ℕ} → code ≡ code_of string_length (asked most grammar n (length out) then λ g. accepted (find g))
      → out' ≡ output_of (asked most grammar n (length out) then λ g. accepted (find g)) out → Answered out' (asked most grammar n (length out)) code
  strings_demand {code} {out'} e w = go refl (asked_row most grammar n (length out)) e w
    where
      go : {v : Verdict Grammar} → asked most grammar n (length out) ≡ v → Refuses (GrammarBlockRow ∪ SpecimenRow) v
          → code ≡ code_of string_length (v then λ g. accepted (find g)) → out' ≡ output_of (v then λ g. accepted (find g)) out → Answered out' v code
      go q (granted {a = g}) e w =
          let valid = (grammar_block_out grammar g (asked_out most grammar n (length out) g q).0).0 in
          rw e (answers {a = g} refl (written g (search.least g valid) w))
      go q (denied r) e w = rw e (refuses refl r w)

  -- what an accepted call answered and wrote
  pub demand_strings : {code : ℤ} {out' : List ℕ} {g : Grammar} → asked most grammar n (length out) ≡ accepted g
      → Answered out' (asked most grammar n (length out)) code
      → (code ≡ pos (string_length (find g))) × (out' ≡ output_of (accepted (find g)) out)
  demand_strings {code} {out'} {g} due call = go call
    where
      least : LeastOrNone (search.Sought g) (find g)
      least = search.least g (grammar_block_out grammar g (asked_out most grammar n (length out) g due).0).0

      told : {m : ℕ} → LeastWritten (search.Sought g) n out out' m → (m ≡ string_length (find g)) × (out' ≡ output_of (accepted (find g)) out)
      told (inl (s, l, m, w)) =
          let k = search.as_long g s l.0 in
          let is : find g ≡ some s = least_unique least (first l) in
          rw is (m ∙ sym k, rw k w)
      told (inr (never, m, w)) = let is : find g ≡ none = least_unique least (nothing never) in rw is (m, w)

      go : {z : ℤ} → Answered out' (asked most grammar n (length out)) z
          → (z ≡ pos (string_length (find g))) × (out' ≡ output_of (accepted (find g)) out)
      go (answers {a} p w) =
          let same : a ≡ g = accepted_is (sym p ∙ due) in
          let (m, k) = told (rw same at w) in (ap pos m, k)
      go (refuses p r u) = absurd (refused≢accepted (sym p ∙ due))

-- the specimen
pub specimen_small : (s : List ℕ) (n out : ℕ) → Small string_length (specimen s n out)
unfolding specimen
specimen_small s n out = strings_small 24 (omega arith) s n out (first_search n)

pub specifies : (grammar : List ℕ) (n : ℕ) (out : List ℕ) {code : ℤ} {out' : List ℕ} → code ≡ code_of string_length (specimen grammar n (length out))
    → out' ≡ output_of (specimen grammar n (length out)) out → D.Specimen grammar n out code out'
unfolding specimen
specifies grammar n out e w = record { demand_1 = strings_demand 24 grammar n out (first_search n) e w }

-- the next phrase
module _ (grammar : List ℕ) (n call : ℕ) (out : List ℕ) where
  pub next_small : Small string_length (next grammar n call out)
  unfolding next
  next_small = strings_small 6 (omega arith) grammar n (length out) (next_search n call out)

  pub continues : {code : ℤ} {out' : List ℕ} → code ≡ code_of string_length (next grammar n call out) → out' ≡ output_of (next grammar n call out) out
      → D.NextPhrase grammar n call out code out'
  unfolding next
  continues e w = record { demand_1 = strings_demand 6 grammar n out (next_search n call out) e w }

  pub continued : {code : ℤ} {out' : List ℕ} {g : Grammar} → asked 6 grammar n (length out) ≡ accepted g → D.NextPhrase grammar n call out code out'
      → (code ≡ pos (string_length (next_of n call out g))) × (out' ≡ output_of (accepted (next_of n call out g)) out)
  continued due r = demand_strings 6 grammar n out (next_search n call out) due r.demand_1
