-- What a call answers, by what the tests found. Assumes nothing.
use mathlib.Core.Path.{◌≡◌}
use mathlib.Core.List.{List}
use Prim.Native.Nat.{ℕ}
use lib.Dec.{eqb}
use lib.ListN.{length, take}
use Rattle.bits.specs.Bits.{pick}
use Rattle.packing.specs.Meaning.{Grammar}
use Rattle.packing.specs.Parse.{accepted, refused}
use Rattle.phrases.specs.Enumeration.{first_phrase, next_phrase}
use Rattle.specimen.specs.Conditions.{asked}
use Rattle.specimen.specs.Specimen.{length_told, output_of}
use Rattle.specimen.proofs.Asked.{refused_told}
use Rattle.next_phrase.specs.NextPhrase.{next}

module _ (s : List ℕ) (n call : ℕ) (out : List ℕ) where
  pub next_refused : {m : ℕ} → asked 6 s n (length out) ≡ refused m → (refused m ≡ length_told (next s n call out)) × (out ≡ output_of (next s n call out) out)
  unfolding next
  next_refused e = refused_told (asked 6 s n (length out)) (λ g. pick (eqb call 0) (next_phrase g n (take n out)) (first_phrase g n)) out e

  pub next_told : {g : Grammar} → asked 6 s n (length out) ≡ accepted g
      → next s n call out ≡ accepted (pick (eqb call 0) (next_phrase g n (take n out)) (first_phrase g n))
  unfolding next
  next_told e = rw e
