-- What a writer answers and leaves behind: document 01, "The services": the length written, or the refusal. Assumes nothing. Nobody need
-- believe this page: Demands says what a conversion answers and leaves behind.
use Rattle.std.specs.Prelude.{◌≡◌, List, ℕ, Result}
use Rattle.packing.specs.Parse.{Verdict}
use Rattle.packing.specs.Conversion.{fitting, written}
use Rattle.packing.specs.Read.{as_verdict, counted}
use Rattle.packing.specs.declared.refusal.Refusal.{Refusal}

-- the answer and the output afterwards, of what is to be written and the output before
abbrev pub Writes : Verdict (List ℕ) → List ℕ → Result ℕ Refusal → List ℕ → Type 0
Writes v before r after = (as_verdict r ≡ counted (fitting v before)) × (after ≡ written (fitting v before) before)
