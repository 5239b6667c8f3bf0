-- What a call answers by its table, as functions. Nobody need believe this page: open_listing's theorems join it to its page Open.
use Rattle.std.specs.Prelude.{◌≡◌, Bool, true, false, List, ◌++◌, ℕ, ◌≤◌, Result, Ok, Err, drop}
use Rattle.bits.specs.Bits.{pick}
use Rattle.packing.specs.Refusal.{number}
use Rattle.packing.specs.declared.refusal.Refusal.{Refusal}
use Rattle.chart_table.specs.Table.{Sized}
use Rattle.chart.specs.Chart.{root_spelled}
use Rattle.traced_readings.specs.Model.{FormFor, block_at}
use Rattle.open_answer.specs.declared.Plan.{Plan}
use Rattle.open_answer.specs.Answer as A
use Rattle.open_answer.specs.Answer.{Reading, NoMore, Full, Refused}
use Rattle.open_answer.specs.declared.Answer as code

-- what the code answers
abbrev pub told : Result code.Answer Refusal → A.CallAnswer
told (Ok code.TheVariants.Reading) = Reading
told (Ok code.TheVariants.NoMore) = NoMore
told (Ok code.TheVariants.Full) = Full
told (Err r) = Refused (number r)

abbrev pub is_reading : A.CallAnswer → Bool
is_reading Reading = true
is_reading NoMore = false
is_reading Full = false
is_reading (Refused n) = false

-- what a search goes by, within a limit
pub record Planned (limit : ℕ) (p : Plan) : Type 0 where
  pub sized : Sized p.layout
  pub all_ranks : p.layout.ranks ≡ 256
  pub form : FormFor limit p.layout.last p.form
  pub edges : p.edges ≤ 256

module _ (t rules edges : List ℕ) (p : Plan) (x : ℕ) where
  -- whether the table spells a derivation at rank x of the root, of the weight of its price
  abbrev pub hands_out : Bool
  hands_out = root_spelled t rules edges (record { rules = p.form.rules; edges = p.edges; named = p.form.graph }) p.layout x

  -- the answer, where the rank is there, which the first test says
  unfoldable pub settled : Bool → A.CallAnswer
  settled found = pick found (pick hands_out Reading (Refused 53)) NoMore

-- the output, if the reading is written and if it is not
abbrev pub output_by : Bool → (t rules : List ℕ) → Plan → ℕ → List ℕ → List ℕ
output_by b t rules p x out = pick b (block_at t rules p.layout p.form x ++ drop p.form.size out) out
