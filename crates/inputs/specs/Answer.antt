-- What a service answers that lists something, how many there are or the first refusal, and what it leaves. Nobody need believe this page: the closing
-- pages say it of the exported functions. Assumes nothing.
use Rattle.std.specs.Prelude.{◌≡◌, List, ℕ, Result}
use Rattle.packing.specs.Parse.{Verdict}
use Rattle.packing.specs.Read.{as_verdict, counted}
use Rattle.packing.specs.declared.refusal.Refusal.{Refusal}

-- an equation for the answer and one for each slice that was lent, of what is due
pub record Lists {A : Type 0} (work_after output_after : Verdict (List A) → List ℕ → List ℕ) (due : Verdict (List A)) (work out : List ℕ)
    (r : Result ℕ Refusal) (work' out' : List ℕ) : Type 0 where
  pub answer : as_verdict r ≡ counted due
  pub work_is : work' ≡ work_after due work
  pub output_is : out' ≡ output_after due out
