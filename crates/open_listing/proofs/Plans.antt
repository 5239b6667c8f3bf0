-- The plan of what was read of both blocks, and what a table for all ranks and an output for one reading need.
use mathlib.Core.Path.{◌≡◌, refl, ap}
use Prim.Native.Nat.{ℕ, ◌*◌, ◌≤◌}
use native.Mathlib.Omega.{arith}
use Rattle.packing.specs.Meaning.{Grammar, Heard, last_place}
use Rattle.derivation.specs.Heard.{output_length}
use Rattle.chart_table.specs.declared.Layout.{Layout}
use Rattle.chart_table.specs.Table.{Sized}
use Rattle.chart.specs.Chart.{lay_out}
use Rattle.grammar_reader.specs.Answer.{sizes}
use Rattle.inputs.specs.Inputs.{Bounds}
use Rattle.heard_reader.specs.Answer.{heard_size}
use Rattle.chart.specs.WorkTable.{table_size}
use Rattle.traced_readings.specs.Model.{form_of}
use Rattle.traced_readings.specs.declared.Form.{Form}
use Rattle.chart.proofs.WorkTable.{table_is}
use Rattle.traced_readings.proofs.Sizes.{size_is}
use Rattle.open_answer.specs.Model.{Planned}
use Rattle.open_listing.specs.Model.{plan_of}
use Rattle.open_answer.specs.declared.Plan.{Plan}
use Rattle.inputs.specs.declared.Inputs.{Inputs}

module _ (b : Inputs) (bounds : Bounds b) {f : Form} {d : Layout} (formed : f ≡ form_of b.heard.graph b.heard.last b.sizes.rules)
    (laid : d ≡ lay_out b.sizes.symbols b.heard.last 256) where
  abbrev made : Plan
  made = record { form = f; layout = d; edges = b.heard.edges }

  pub plan_is : made ≡ plan_of b
  plan_is = rw (formed, laid)

  pub plan_planned : (limit : ℕ) → b.heard.last ≤ limit → Sized d → Planned limit made
  unfolding lay_out
  plan_planned limit few sized = record {
    sized = sized;
    all_ranks = rw laid;
    form = rw (formed, laid) (record {
      some_place = bounds.some_place;
      places = few;
      some_rule = bounds.sizes.some_rule;
      rules = bounds.sizes.rules;
      size = refl;
    });
    edges = omega (arith, bounds.edges);
  }

-- of a grammar and what was heard
abbrev pub plan : Grammar → Heard → Plan
plan g h = plan_of (record { sizes = sizes g; heard = heard_size h })

module _ (g : Grammar) (h : Heard) {p : Plan} (is : p ≡ plan g h) where
  pub numbers_are : {r : ℕ} → r ≡ 4 * p.layout.cells * p.layout.ranks → r ≡ table_size g.symbols (last_place h) 256
  numbers_are e = table_is g.symbols (last_place h) 256 {d = p.layout} (ap (λ (q : Plan). q.layout) is) e

  pub bytes_are : p.form.size ≡ output_length g h
  bytes_are = rw is (size_is g h)
