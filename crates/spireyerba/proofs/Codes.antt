-- The C number of an answer is the one of the verdict v that it tells, since a small number fits 32 bits. Assumes nothing.
use mathlib.Core.Path.{◌≡◌, refl, sym, ap, ◌∙◌}
use Prim.Native.Nat.{ℕ, ◌<◌}
use native.Mathlib.Omega.{arith}
use lib.IntN.{ℤ, pos}
use mir.Syntax.{w32}
use mir.Val.{to_z, of_z, SFits}
use Rattle.std.specs.Prelude.{Result, Ok, Err}
use Rattle.packing.specs.Parse.{Verdict, accepted, refused, ◌then◌}
use Rattle.packing.specs.Read.{as_verdict}
use Rattle.packing.specs.declared.refusal.Refusal.{Refusal}
use Rattle.packing.proofs.Parse.{refused≢accepted, accepted_is}
use Rattle.codes.specs.Code as C
use Rattle.codes.specs.Code.{code_of}
use Rattle.codes.proofs.Signed.{back, fits_pos, fits_neg}

-- a verdict whose number is small
pub data Small {A : Type 0} (size : A → ℕ) : Verdict A → Type 0 where
  small_size : {a : A} → size a < 2147483648 → Small size (accepted a)
  small_refusal : {n : ℕ} → n < 2147483648 → Small size (refused n)

fits_code : {A : Type 0} {size : A → ℕ} {v : Verdict A} → Small size v → SFits w32 (code_of size v)
fits_code (small_size h) = fits_pos _ h
fits_code (small_refusal h) = fits_neg _ h

-- what is answered tells the verdict: of what is accepted, f
module _ {A B : Type 0} (size : A → ℕ) (f : A → B) (size' : B → ℕ) (same : (a : A) → size' (f a) ≡ size a) (v : Verdict A) {w : Verdict B}
    (e : w ≡ (v then λ a. accepted (f a))) where
  pub told_code : code_of size' w ≡ code_of size v
  told_code = ap (code_of size') e ∙ go v
    where
      go : (v : Verdict A) → code_of size' (v then λ a. accepted (f a)) ≡ code_of size v
      go (accepted a) = ap pos (same a)
      go (refused n) = refl

  pub told_number : Small size v → {z : ℤ} → z ≡ code_of size' w → to_z w32 (of_z w32 z) ≡ code_of size v
  told_number small p = back (code_of size v) (fits_code small) (p ∙ told_code)

-- its size is answered
module _ {A : Type 0} (size : A → ℕ) {v : Verdict A} (small : Small size v) (r : Result ℕ Refusal)
    (e : as_verdict r ≡ (v then λ a. accepted (size a))) where
  pub counted_small : C.Small r
  counted_small = go r e small
    where
      go : (r : Result ℕ Refusal) {v : Verdict A} → as_verdict r ≡ (v then λ a. accepted (size a)) → Small size v → C.Small r
      go (Ok n) e (small_size h) = omega (arith, accepted_is e, h)
      go (Ok n) e (small_refusal h) = absurd (refused≢accepted (sym e))
      go (Err r) e s = tt

  pub counted_number : {z : ℤ} → z ≡ code_of (λ n. n) (as_verdict r) → to_z w32 (of_z w32 z) ≡ code_of size v
  counted_number p = told_number size size (λ n. n) (λ a. refl) _ e small p

-- the answer itself is told
pub plain_number : {A : Type 0} (size : A → ℕ) {v w : Verdict A} → w ≡ v → Small size v → {z : ℤ} → z ≡ code_of size w → to_z w32 (of_z w32 z) ≡ code_of size v
plain_number size {v} e small p = back (code_of size v) (fits_code small) (p ∙ ap (code_of size) e)
