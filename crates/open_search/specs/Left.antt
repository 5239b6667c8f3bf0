-- What a call of an open listing answers and leaves: document 02, N2. Assumes nothing.
use Rattle.std.specs.Prelude.{List, ℕ}
use Rattle.open_answer.specs.Answer as A

pub record Left : Type 0 where
  pub answer : A.CallAnswer
  pub table : List ℕ
  pub output : List ℕ

abbrev pub left : A.CallAnswer → (table output : List ℕ) → Left
left a table output = record { answer = a; table = table; output = output }
