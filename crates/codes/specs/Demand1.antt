-- Demand 1 of document 01, of the number that a call answers, its code. Assumes nothing.
use Rattle.std.specs.Prelude.{◌≡◌, ℕ, ℤ, pos, neg_ℤ}
use Rattle.packing.specs.Parse.{Verdict, accepted, refused}

-- Demand 1: whatever arrives, every service returns its stated answer or one refusal by number, and a refusal changes nothing lent.
-- What is due for what arrived is a definition's: a refusal, or what the service is asked about. The code of an answer is 0 or more, and `Answer`
-- says what it tells and what was written. The code of a refusal is minus its number, which is of the service's rows and so not 0.
pub data Demand1 {A : Type 0} (due : Verdict A) (Answer : A → ℕ → Type 0) (Row : ℕ → Type 0) (Unchanged : Type 0) : ℤ → Type 0 where
  answers : {a : A} {n : ℕ} → due ≡ accepted a → Answer a n → Demand1 due Answer Row Unchanged (pos n)
  refuses : {n : ℕ} → due ≡ refused n → Row n → Unchanged → Demand1 due Answer Row Unchanged (neg_ℤ (pos n))
