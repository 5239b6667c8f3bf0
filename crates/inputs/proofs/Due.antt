-- What is due of a service is made of what was asked: a verdict of refusals, whose answer a function turns into the service's own. Assumes nothing.
use mathlib.Core.Path.{◌≡◌, refl}
use Prim.Native.Nat.{ℕ}
use Rattle.packing.specs.Parse.{Verdict, accepted, refused, ◌then◌}
use Rattle.packing.proofs.Refusals.{Refuses, granted, denied}

-- what follows a verdict, split in two
pub then_within : {A B C : Type 0} (v : Verdict A) (f : A → Verdict B) (k : B → Verdict C) {m : A → Verdict C}
    → ((a : A) → m a ≡ (f a then k)) → (v then m) ≡ ((v then f) then k)
then_within (accepted a) f k h = h a
then_within (refused n) f k h = refl

-- both have the same refusals
pub asked_row : {A B : Type 0} {Row : ℕ → Type 0} (v : Verdict A) (f : A → B) {w : Verdict B} → w ≡ (v then λ a. accepted (f a)) → Refuses Row w → Refuses Row v
asked_row {Row = Row} v f e r = go v (rw e at r)
  where
    go : (v : Verdict _) → Refuses Row (v then λ a. accepted (f a)) → Refuses Row v
    go (accepted a) r = granted
    go (refused n) (denied h) = denied h
