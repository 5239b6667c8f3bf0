-- What the calls of the passes tell makes up what the passes answer and leave.
use mathlib.Core.Path.{◌≡◌, refl, ap, ◌∙◌}
use mathlib.Core.Bool.{Bool}
use mathlib.Core.List.{List}
use Prim.Native.Nat.{ℕ}
use lib.Dec.{eqb}
use lib.ListN.{length}
use borrow.Author.Tests.{eq-eqb, ne_eqb}
use Rattle.packing.specs.Meaning.{Node}
use Rattle.packing.specs.Flat.{nodes_in}
use Rattle.chart_table.specs.Table.{clear}
use Rattle.chart.specs.Chart.{roots_found, root_weight, root_trace}
use Rattle.one_best.specs.Model.{table_by, weight_by}
use Rattle.rising_costs.specs.Model.{raise_nodes, nodes_weight}
use Rattle.cost_ranges.specs.Model.{has_least, decide, found, passed, left_by}
use Rattle.one_best.specs.declared.Pass.{Pass}
use Rattle.cost_ranges.specs.declared.Ranged.{Ranged}
use Rattle.cost_ranges.specs.declared.Ranged.TheVariants.{Nothing}

-- the pass over mixed costs
pub least_told : (rules : List ℕ) (nodes : List Node) (high costs : List ℕ) (p : Pass) (size : ℕ) {own w least : ℕ} {costs' work' : List ℕ}
    → costs' ≡ raise_nodes high costs nodes → own ≡ nodes_weight rules high nodes → work' ≡ table_by rules costs' p size → w ≡ weight_by rules costs' p size
    → least ≡ w → (eqb own least ≡ has_least rules nodes high costs p size) × (work' ≡ table_by rules (raise_nodes high costs nodes) p size)
least_told rules nodes high costs p size ec eo et ew el =
    (rw (eo, el, ew, ec), et ∙ ap (λ (c : List ℕ). table_by rules c p size) ec)

-- all passes
module _ (rules low high : List ℕ) (p : Pass) (size : ℕ) where
  pub none_told : {table work' : List ℕ} {m : ℕ} → table ≡ table_by rules low p size → m ≡ roots_found table p.table → m ≡ 0
      → work' ≡ clear table p.table → (Nothing ≡ passed rules low high p size) × (work' ≡ left_by rules low high p size)
  none_told et em z ew =
      let none : found rules low high p size ≡ 0 = rw (em, et) at z in
      rw (eq-eqb (found rules low high p size) 0 none) (refl, ew ∙ ap (λ (t : List ℕ). clear t p.table) et)

  pub some_told : (work₂ : List ℕ) {table work₃ work' part : List ℕ} {m least greatest : ℕ} {b : Bool} {r : Ranged}
      → table ≡ table_by rules low p size → m ≡ roots_found table p.table → (m ≡ 0 → ⊥) → least ≡ root_weight table p.table 0
      → part ≡ root_trace table rules p.table 0 → length table ≡ size
      → greatest ≡ weight_by rules high p (length table) → length work₂ ≡ length table
      → b ≡ has_least rules (nodes_in rules part) high low p (length work₂)
      → work₃ ≡ table_by rules (raise_nodes high low (nodes_in rules part)) p (length work₂) → work' ≡ clear work₃ p.table
      → r ≡ decide b (record { least = least; greatest = greatest })
      → (r ≡ passed rules low high p size) × (work' ≡ left_by rules low high p size)
  some_told work₂ {table = table} et em not el front k₁ eg k₂ eb e₃ e' er =
      let many : ¬ (found rules low high p size ≡ 0) = λ z. not (em ∙ ap (λ (t : List ℕ). roots_found t p.table) et ∙ z) in
      rw (ne_eqb (found rules low high p size) 0 many) (er ∙ rw (eb, el, eg, front, k₂, k₁, et), e' ∙ rw (e₃, front, k₂, k₁, et))
