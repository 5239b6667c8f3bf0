-- What an answer of the readers says of the block or sheet. Assumes nothing.
use mathlib.Core.Path.{◌≡◌, refl, ap}
use mathlib.Core.Bool.{Bool}
use Prim.Native.Nat.{ℕ}
use Rattle.packing.specs.Meaning as meaning
use Rattle.packing.specs.Parse.{Verdict, accepted, refused}
use Rattle.grammar_reader.specs.Answer.{sizes, sizes_told, marked_sizes}
use Rattle.grammar_reader.specs.declared.Sizes.{Sizes}

pub accepted_told : (v : Verdict meaning.Grammar) {z : Sizes} → accepted z ≡ sizes_told v → (g : meaning.Grammar) × (v ≡ accepted g) × (z ≡ sizes g)
accepted_told (accepted g) e = (g, refl, cc)
accepted_told (refused n) e = cc

pub refused_told : (v : Verdict meaning.Grammar) {n : ℕ} → refused n ≡ sizes_told v → v ≡ refused n
refused_told (accepted g) e = cc
refused_told (refused m) e = cc

-- the same of grammars with marks
pub marked_told : (v : Verdict meaning.Marked) {z : Sizes} {b : Bool} → accepted (z, b) ≡ marked_sizes v
    → (m : meaning.Marked) × (v ≡ accepted m) × (z ≡ sizes (meaning.grammar_of m)) × (b ≡ m.marking)
marked_told (accepted m) {z} {b} e =
    let p : (z, b) ≡ (sizes (meaning.grammar_of m), m.marking) = cc in
    (m, refl, ap (λ (y : Sizes × Bool). y.0) p, ap (λ (y : Sizes × Bool). y.1) p)
marked_told (refused n) e = cc

pub marked_refused : (v : Verdict meaning.Marked) {n : ℕ} → refused n ≡ marked_sizes v → v ≡ refused n
marked_refused (accepted m) e = cc
marked_refused (refused m) e = cc
