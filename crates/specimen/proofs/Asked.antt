-- What is asked of the specimen, by what the tests found, and with which numbers it is refused. Assumes nothing.
use mathlib.Core.Path.{◌≡◌, refl, ◌∙◌}
use mathlib.Core.Option.{Option}
use mathlib.Core.List.{List}
use Prim.Native.Nat.{ℕ, ◌≤◌, ◌<◌}
use native.Mathlib.Omega.{arith}
use borrow.Author.Tests.{lt-ltb, le-ltb, ltb-false}
use lib.Dec.{ltb}
use Rattle.packing.specs.Meaning.{Grammar}
use Rattle.packing.specs.Parse.{Verdict, accepted, refused, ◌then◌}
use Rattle.packing.specs.Grammar.{grammar_block}
use Rattle.packing.specs.Rows.{◌∪◌, GrammarBlockRow, SpecimenRow}
use Rattle.packing.proofs.Parse as P
use Rattle.packing.proofs.Refusals.{Refuses, granted, denied, choose_row, then_rows, grammar_block_row}
use Rattle.phrases.specs.Enumeration.{first_phrase}
use Rattle.specimen.specs.Conditions.{asked}
use Rattle.specimen.specs.Specimen.{specimen, length_told, output_of}

module _ (most : ℕ) (s : List ℕ) (n out : ℕ) where
  pub asked_block : {m : ℕ} → grammar_block s ≡ refused m → asked most s n out ≡ refused m
  unfolding asked
  asked_block e = rw e

  module _ {g : Grammar} (e : grammar_block s ≡ accepted g) where
    pub asked_none : n < 1 → asked most s n out ≡ refused 25
    unfolding asked
    asked_none h = rw (e, lt-ltb _ _ h)

    pub asked_many : 1 ≤ n → most < n → asked most s n out ≡ refused 25
    unfolding asked
    asked_many h k = rw (e, le-ltb n 1 h, lt-ltb _ _ k)

    pub asked_short : 1 ≤ n → n ≤ most → out < n → asked most s n out ≡ refused 26
    unfolding asked
    asked_short h k l = rw (e, le-ltb n 1 h, le-ltb most n k, lt-ltb _ _ l)

    pub asked_well : 1 ≤ n → n ≤ most → n ≤ out → asked most s n out ≡ accepted g
    unfolding asked
    asked_well h k l = rw (e, le-ltb n 1 h, le-ltb most n k, le-ltb out n l)

-- what is accepted was asked of an accepted grammar, the length is at most `most`, and there is room for it
pub asked_out : (most : ℕ) (s : List ℕ) (n out : ℕ) (g : Grammar) → asked most s n out ≡ accepted g → (grammar_block s ≡ accepted g) × (n ≤ most) × (n ≤ out)
unfolding asked
asked_out most s n out g e =
    P.granted (grammar_block s) _ e λ h p e.
    let (_, e₁) = P.accepted_else (ltb n 1) 25 _ e in
    let (b, e₂) = P.accepted_else (ltb most n) 25 _ e₁ in
    let (c, e₃) = P.accepted_else (ltb out n) 26 _ e₂ in
    (p ∙ e₃, ltb-false most n b, ltb-false out n c)

-- a refusal changes nothing, and what is accepted has its string
module _ (v : Verdict Grammar) (find : Grammar → Option (List ℕ)) where
  pub refused_told : (out : List ℕ) {m : ℕ} → v ≡ refused m
      → (refused m ≡ length_told (v then λ g. accepted (find g))) × (out ≡ output_of (v then λ g. accepted (find g)) out)
  refused_told out e = rw e (refl, refl)

  pub accepted_told : {g : Grammar} → v ≡ accepted g → (v then λ g. accepted (find g)) ≡ accepted (find g)
  accepted_told e = rw e

module _ (s : List ℕ) (n size : ℕ) where
  pub specimen_refused : (out : List ℕ) {m : ℕ} → asked 24 s n size ≡ refused m
      → (refused m ≡ length_told (specimen s n size)) × (out ≡ output_of (specimen s n size) out)
  unfolding specimen
  specimen_refused out e = refused_told (asked 24 s n size) (λ g. first_phrase g n) out e

  pub specimen_accepted : {g : Grammar} → asked 24 s n size ≡ accepted g → specimen s n size ≡ accepted (first_phrase g n)
  unfolding specimen
  specimen_accepted e = accepted_told (asked 24 s n size) (λ g. first_phrase g n) e

-- the refusals are of the rows grammar block and specimen
pub asked_row : (most : ℕ) (s : List ℕ) (n out : ℕ) → Refuses (GrammarBlockRow ∪ SpecimenRow) (asked most s n out)
unfolding asked
asked_row most s n out =
    then_rows (grammar_block_row s) λ g e.
    choose_row (ltb n 1) (denied {n = 25} (omega arith, omega arith)) (choose_row (ltb most n) (denied {n = 25} (omega arith, omega arith))
    (choose_row (ltb out n) (denied {n = 26} (omega arith, omega arith)) granted))
