-- The service's code as functions. Nobody need believe this page: the theorems of proofs/ join it to specs/Open.
use Rattle.std.specs.Prelude.{◌≡◌, List, ℕ, Result}
use Rattle.chart.specs.Chart.{lay_out}
use Rattle.traced_readings.specs.Model.{form_of}
use Rattle.open_answer.specs.declared.Plan.{Plan}
use Rattle.open_answer.specs.Answer.{Refused}
use Rattle.open_search.specs.Model.{unchanged, table_by, call_by, As}
use Rattle.open_search.specs.declared.Place.{Place}
use Rattle.open_listing.specs.Open.{Blocks, opened_of, table_opened, Lent, Left, Called, Kept}
use Rattle.packing.specs.Read.{as_verdict}
use Rattle.packing.specs.declared.refusal.Refusal.{Refusal}
use Rattle.inputs.specs.Inputs.{Meant, inputs_of, meant_by, rules_array, edges_array}
use Rattle.inputs.specs.declared.Inputs.{Inputs}
use Rattle.packing.specs.Meaning.{Grammar, Heard}
use Rattle.packing.specs.Parse.{Verdict, accepted, refused}
use Rattle.packing.specs.Heard.{heard_block}

-- what a search of inputs that were read goes by
abbrev pub plan_of : Inputs → Plan
plan_of b = record {
  form = form_of b.heard.graph b.heard.last b.sizes.rules;
  layout = lay_out b.sizes.symbols b.heard.last 256;
  edges = b.heard.edges;
}

-- the table that a call's search makes, of what both blocks mean
abbrev pub searched : Grammar → Heard → Place → List ℕ → List ℕ
searched g h p work = table_by (rules_array g) (edges_array h) (plan_of (inputs_of (record { grammar = g; heard = h }))) p work

-- what a call answers and leaves, by the verdict on both blocks
abbrev pub next_by : Verdict Meant → Place → (work out : List ℕ) → Left
next_by (accepted m) p work out = call_by (rules_array m.grammar) (edges_array m.heard) (plan_of (inputs_of m)) p work out
next_by (refused n) p work out = unchanged (Refused n) work out

-- and so of both blocks
abbrev pub next_of : (grammar heard : List ℕ) → Place → (work out : List ℕ) → Left
next_of grammar heard p work out = next_by (meant_by heard_block grammar heard) p work out

-- What a call answers and leaves, of what it was lent: what holds of any place and table, what holds of those that were left alone, and the equation
pub record CallsAs (l : Lent) (r : Left) : Type 0 where
  pub called : Called searched l r
  pub kept : Kept searched l r
  pub computed : As (next_of l.grammar l.heard l.place l.work l.out) r.answer r.table r.output

-- what opening answers and leaves, of what is due
pub record OpensAs (due : Verdict Blocks) (work : List ℕ) (r : Result (Unit {0}) Refusal) (work' : List ℕ) : Type 0 where
  pub answer : as_verdict r ≡ opened_of due
  pub table : work' ≡ table_opened due work
