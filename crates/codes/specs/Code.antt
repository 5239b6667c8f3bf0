-- Answers as C numbers: what is due, and what fits one. Nobody need believe this page: the exported functions' contracts have the equations with what is
-- computed beside the records of Demands, which say what it means.
use Rattle.std.specs.Prelude.{ℕ, ◌<◌, ℤ, Result, Ok, Err, pos, neg_ℤ}
use Rattle.packing.specs.Parse.{Verdict, accepted, refused}
use Rattle.packing.specs.declared.refusal.Refusal.{Refusal}

-- of a verdict, whose answer is told by its size
abbrev pub code_of : {A : Type 0} → (A → ℕ) → Verdict A → ℤ
code_of size (accepted a) = pos (size a)
code_of size (refused n) = neg_ℤ (pos n)

-- small enough for a C number, as every refusal is
abbrev pub Small : Result ℕ Refusal → Type 0
Small (Ok n) = n < 2147483648
Small (Err r) = Unit {0}
