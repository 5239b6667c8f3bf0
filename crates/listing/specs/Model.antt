-- The parts of the listing's code as functions. Nobody need believe this page: the theorems of proofs/ join it to specs/Listing.
use Rattle.std.specs.Prelude.{◌≡◌, Bool, List, [], ◌++◌, ℕ, ◌*◌, Result, length, drop}
use Rattle.packing.specs.Heard.{heard_block}
use Rattle.packing.specs.Loop.{iter}
use Rattle.inputs.specs.Inputs.{ReadOf}
use Rattle.inputs.specs.declared.Inputs.{Inputs}
use Rattle.chart_table.specs.declared.Layout.{Layout}
use Rattle.chart_table.specs.Table.{clear}
use Rattle.chart.specs.Chart.{enumerate, roots_found}
use Rattle.chart.specs.WorkTable.{work_after}
use Rattle.inputs.specs.Answer.{Lists}
use Rattle.listing.specs.Listing.{list, output_after}
use Rattle.listing_limits.specs.declared.Asked.{Asked}
use Rattle.packing.specs.declared.refusal.Refusal.{Refusal}
use Rattle.traced_readings.specs.Model.{block_at}
use Rattle.traced_readings.specs.declared.Form.{Form}

-- the readings of the ranks below m, one after another
unfoldable pub blocks_at : List ℕ → List ℕ → Layout → Form → ℕ → List ℕ
blocks_at t rules d f m = iter (λ l x. l ++ block_at t rules d f x) [] m

-- what is promised where the arrays and the layout are given: the ranks that the chart has found are written, and their entries
-- are cleared
pub record Filled (rules : List ℕ) (f : Form) (edges : List ℕ) (E : ℕ) (d : Layout) (work out : List ℕ) (r : ℕ) (work' out' : List ℕ)
    : Type 0 where
  pub table : List ℕ
  pub made : table ≡ enumerate rules f.rules edges E d (length work)
  pub number : r ≡ roots_found table d
  pub blocks : out' ≡ blocks_at table rules d f r ++ drop (r * f.size) out
  pub size : length table ≡ length work
  pub emptied : work' ≡ clear table d

-- what is promised of inputs that were read
abbrev pub ReadListed : (rules edges : List ℕ) → Inputs → Asked → (work out : List ℕ) → Result ℕ Refusal → (work' out' : List ℕ) → Type 0
ReadListed rules edges z a work out r work' out' =
    (grammar heard rules₀ edges₀ : List ℕ) → ReadOf heard_block grammar heard rules₀ edges₀ z rules edges
    → Lists work_after output_after (list a.limits grammar heard a.wanted (length work) (length out)) work out r work' out'
