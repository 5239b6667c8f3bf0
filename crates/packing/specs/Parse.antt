-- What reading gives: a value and the place behind it, or a refusal by number, which is handed up (document 01,
-- "The services"). Assumes nothing.
use Rattle.std.specs.Prelude.{Bool, ℕ}
use Rattle.bits.specs.Bits.{pick}

infixr 10 ◌⟫◌ ◌then◌
-- on the way: a value and the next place, or a refusal
pub data Parse (A : Type 0) : Type 0 where
  parsed : A → ℕ → Parse A
  failed : ℕ → Parse A

-- and then: what follows gets the value and the next place
abbrev pub ◌⟫◌ : {A B : Type 0} → Parse A → (A → ℕ → Parse B) → Parse B
◌⟫◌ (parsed a at) k = k a at
◌⟫◌ (failed n) k = failed n

-- at the end: a meaning, or a refusal
pub data Verdict (A : Type 0) : Type 0 where
  accepted : A → Verdict A
  refused : ℕ → Verdict A

abbrev pub ◌then◌ : {A B : Type 0} → Verdict A → (A → Verdict B) → Verdict B
◌then◌ (accepted a) k = k a
◌then◌ (refused n) k = refused n

-- what was read is accepted
abbrev pub verdict_of : {A : Type 0} → Parse A → Verdict A
verdict_of (parsed a at) = accepted a
verdict_of (failed n) = refused n

-- what was read is accepted where the test of the place behind it passes, and otherwise refused with n
abbrev pub finish : {A : Type 0} → (ℕ → Bool) → ℕ → Parse A → Verdict A
finish end n (parsed a at) = pick (end at) (accepted a) (refused n)
finish end n (failed m) = refused m
