-- The place behind what was read says whether it was. Assumes nothing.
use mathlib.Core.Path.{◌≡◌, refl}
use Prim.Native.Nat.{ℕ}
use Rattle.packing.specs.Parse.{Parse, parsed, failed, ◌⟫◌}
use Rattle.rules_reader.specs.Rules.{place_of}

pub unreached : {A : Type 0} (x : Parse A) {n : ℕ} → failed n ≡ place_of x → x ≡ failed n
unreached (parsed a at) e = cc
unreached (failed n) e = cc

pub reached_out : {A : Type 0} (x : Parse A) {next : ℕ} → parsed next next ≡ place_of x → (a : A) × (x ≡ parsed a next)
reached_out (parsed a at) {next} e = let p : at ≡ next = cc in (a, rw p)
reached_out (failed n) e = cc

-- what is made of a value does not change where it ends
pub place_map : {A B : Type 0} (f : A → B) (x : Parse A) → place_of (x ⟫ λ a at. parsed (f a) at) ≡ place_of x
place_map f (parsed a at) = refl
place_map f (failed n) = refl
