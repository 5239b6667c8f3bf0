-- The parts of the service's code as functions. Nobody need believe this page: the theorems of proofs/ join it to specs/CostRanges.
use Rattle.std.specs.Prelude.{◌≡◌, Bool, true, List, ℕ, Result, eqb, length}
use Rattle.bits.specs.Bits.{pick}
use Rattle.packing.specs.Meaning.{Grammar, Utterance, slots, edges, Node}
use Rattle.packing.specs.Parse.{Verdict}
use Rattle.packing.specs.Read.{as_verdict}
use Rattle.packing.specs.declared.refusal.Refusal.{Refusal}
use Rattle.packing.specs.Flat.{Begins, rule_numbers, edge_numbers, nodes_in}
use Rattle.packing.specs.Valid.{ValidGrammar, ValidUtterance}
use Rattle.cost_changes.specs.Ranges.{rises, Answer}
use Rattle.inputs.specs.Inputs.{both, inputs_of}
use Rattle.inputs.specs.declared.Inputs.{Inputs}
use Rattle.chart_table.specs.Table.{clear}
use Rattle.chart.specs.Chart.{roots_found, root_trace}
use Rattle.chart.specs.WorkTable.{work_after}
use Rattle.cost_ranges.specs.CostRanges.{ranged, ranged_of}
use Rattle.one_best.specs.declared.Pass.{Pass}
use Rattle.one_best.specs.Model.{table_by, weight_by}
use Rattle.rising_costs.specs.Model.{raise_nodes, nodes_weight}
use Rattle.cost_ranges.specs.declared.Ranged.{Ranged}
use Rattle.cost_ranges.specs.declared.Ranged.TheVariants.{Nothing, Outweighed, Stands}
use Rattle.cost_ranges.specs.declared.Weights.{Weights}

-- a tree has least weight with its own words high and all others as they are
abbrev pub has_least : List ℕ → List Node → List ℕ → List ℕ → Pass → ℕ → Bool
has_least rules nodes high costs p size = eqb (nodes_weight rules high nodes) (weight_by rules (raise_nodes high costs nodes) p size)

abbrev pub decide : Bool → Weights → Ranged
decide b w = pick b (Stands w) (Outweighed w)

module _ (rules low high : List ℕ) (p : Pass) (size : ℕ) where
  abbrev pub found : ℕ
  found = roots_found (table_by rules low p size) p.table

  -- the nodes of the first tree for low costs, and the mixed costs
  abbrev pub first_nodes : List Node
  first_nodes = nodes_in rules (root_trace (table_by rules low p size) rules p.table 0)

  abbrev pub mixed : List ℕ
  mixed = raise_nodes high low first_nodes

  -- what the passes answer, and the table that they leave
  abbrev pub passed : Ranged
  passed =
      pick (eqb found 0) Nothing (decide (has_least rules first_nodes high low p size)
      (record { least = weight_by rules low p size; greatest = weight_by rules high p size }))

  abbrev pub left_by : List ℕ
  left_by = pick (eqb found 0) (clear (table_by rules low p size) p.table) (clear (table_by rules mixed p size) p.table)

-- what is promised of the answer and of the work table afterwards, where this verdict is due
abbrev pub Promised : Verdict Answer → (work : List ℕ) → Result Ranged Refusal → (work' : List ℕ) → Type 0
Promised v work r work' = (as_verdict r ≡ ranged_of v) × (work' ≡ work_after v work)

-- what is promised where the edges of both utterances are in arrays, and are alike but for rising costs
abbrev pub AlikeRanged : (rules : List ℕ) → Inputs → (low high work : List ℕ) → Result Ranged Refusal → (work' : List ℕ) → Type 0
AlikeRanged rules z low high work r work' =
    (g : Grammar) (u v : Utterance) → ValidGrammar g → ValidUtterance g.words u → ValidUtterance g.words v → z ≡ inputs_of (both g (slots u))
    → Begins (rule_numbers g) rules → Begins (edge_numbers (edges u)) low → Begins (edge_numbers (edges v)) high
    → rises u v ≡ true → Promised (ranged g u v (length work)) work r work'
