-- What the verdict that tells an answer says of the verdict on what was read. Assumes nothing.
use mathlib.Core.Path.{◌≡◌, refl, sym, ap}
use Prim.Native.Nat.{ℕ}
use Rattle.packing.specs.Parse.{Verdict, accepted, refused, ◌then◌}
use Rattle.packing.proofs.Parse.{refused≢accepted, accepted_is}

pub accepted_told : {A B : Type 0} (v : Verdict A) (f : A → B) {b : B} → accepted b ≡ (v then λ a. accepted (f a)) → (a : A) × (v ≡ accepted a) × (b ≡ f a)
accepted_told (accepted a) f e = (a, refl, accepted_is e)
accepted_told (refused n) f e = absurd (refused≢accepted (sym e))

pub refused_told : {A B : Type 0} (v : Verdict A) (f : A → B) {n : ℕ} → refused n ≡ (v then λ a. accepted (f a)) → v ≡ refused n
refused_told (accepted a) f e = absurd (refused≢accepted e)
refused_told (refused m) f {n} e = let same : m ≡ n = cc in ap refused same
