-- What a call of an open listing answers: document 02, N2: a reading, "no more", "full", or a refusal by its number. Assumes nothing.
use Rattle.std.specs.Prelude.{ℕ}

pub data CallAnswer : Type 0 where
  Reading : CallAnswer
  NoMore : CallAnswer
  Full : CallAnswer
  Refused : ℕ → CallAnswer
