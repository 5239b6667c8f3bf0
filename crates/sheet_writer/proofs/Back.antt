-- What was written turns back into what was given.
-- Assumes nothing.
use Rattle.std.specs.Prelude.{Result, Ok}
use mathlib.Core.Path.{◌≡◌, refl, sym}
use mathlib.Core.List.{List}
use Prim.Native.Nat.{ℕ}
use lib.Dec.{ltb}
use lib.ListN.{length, take, drop}
use lib.Seq.{take_at}
use Rattle.packing.specs.Parse.{Verdict, accepted, refused}
use Rattle.packing.specs.Conversion.{fitting, written, TurnsBack}
use Rattle.packing.specs.Read.{as_verdict, counted}
use Rattle.packing.specs.declared.refusal.Refusal.{Refusal}
use Rattle.packing.proofs.Parse.{granted, accepted_else, accepted_is}
use Rattle.sheet_writer.specs.Answer.{Writes}

-- what was written turns back into what was given, where every result does
module _ (v : Verdict (List ℕ)) {back : List ℕ → Verdict (List ℕ)} {given : List ℕ} (each : (l : List ℕ) → v ≡ accepted l → back l ≡ accepted given)
    (out : List ℕ) {r : Result ℕ Refusal} {after : List ℕ} where
  pub turns_back : Writes v out r after → TurnsBack back given (λ n. r ≡ Ok n) after
  unfolding fitting
  turns_back (answers, writes) n e = go (fitting v out) refl answers writes
    where
      go : (x : Verdict (List ℕ)) → fitting v out ≡ x → as_verdict r ≡ counted x → after ≡ written x out → back (take n after) ≡ accepted given
      go (refused m) f a w = let z : accepted n ≡ refused m = rw e at a in absurd (cc)
      go (accepted l) f a w =
          let n_is : length l ≡ n = accepted_is (rw (sym a, e)) in
          let front : take n after ≡ l = rw w (take_at l (drop (length l) out) n n_is) in
          granted v _ f λ k p q.
          let same : k ≡ l = accepted_is (accepted_else (ltb (length out) (length k)) 43 (accepted k) q).1 in
          rw front (each l (rw same at p))
