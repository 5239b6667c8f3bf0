-- The check's code as functions: the walk and the weight of the derivation by the runs of derivation's Walk and Path. Nobody need believe this page:
-- the proofs join it to Check. Assumes nothing.
use Rattle.std.specs.Prelude.{◌≡◌, List, [], ℕ, ◌-◌, ◌*◌, eqb, length, Result}
use Rattle.bits.specs.Bits.{pick, field}
use Rattle.packing.specs.Meaning.{Utterance, Reading, Edge}
use Rattle.packing.specs.Parse.{Parse, parsed, failed, Verdict, accepted, refused, ◌then◌}
use Rattle.packing.specs.Source.{bytes}
use Rattle.packing.specs.Read.{as_verdict, counted}
use Rattle.packing.specs.declared.refusal.Refusal.{Refusal}
use Rattle.packing.specs.Utterance.{utterance_block}
use Rattle.packing.specs.Graph.{graph_block}
use Rattle.packing.specs.Reading.{reading_from}
use Rattle.packing.specs.GraphReading.{GraphHead, graph_head_from, graph_reading_bits}
use Rattle.packing.specs.Flat.{Begins}
use Rattle.packing.specs.declared.Rule as R
use Rattle.derivation.specs.Walk.{walk_weight}
use Rattle.derivation.specs.Path.{rules_read, path_weight}
use Rattle.judgement.specs.Weighed.{weighed}

-- a reading of slots, by its walk
abbrev pub by_walk : List R.Rule → Utterance → List ℕ → Parse Reading → Verdict (List ℕ)
by_walk rules u block (failed n) = refused n
by_walk rules u block (parsed d at) = weighed block d.weight at d.walk (walk_weight rules u d.walk)

-- the rule numbers of n edges' nodes
abbrev pub numbers_read : Parse (List ℕ) → List ℕ
numbers_read (parsed l at) = l
numbers_read (failed n) = []

abbrev pub path_walk : List R.Rule → ℕ → List ℕ → List ℕ
path_walk rules n block = numbers_read (rules_read rules (bytes 31 block) (2 * n - 1) 34)

-- a reading of a graph with these edges and this last place, by its path
abbrev pub by_path : List R.Rule → List Edge → ℕ → List ℕ → Parse GraphHead → Verdict (List ℕ)
by_path rules es last block (failed n) = refused n
by_path rules es last block (parsed d at) =
    weighed block d.weight (graph_reading_bits d.edges (length rules)) (path_walk rules d.edges block) (path_weight rules es last d.edges block)

-- the check under a grammar of W words and these rules: of slots, of a graph, and of the kind that the block has
abbrev pub under_slots : ℕ → List R.Rule → List ℕ → List ℕ → Verdict (List ℕ)
under_slots W rules heard reading = utterance_block W heard then λ u. by_walk rules u reading (reading_from (length u) (length rules) reading)

abbrev pub under_graph : ℕ → List R.Rule → List ℕ → List ℕ → Verdict (List ℕ)
under_graph W rules heard reading =
    graph_block W heard then λ h. by_path rules h.edges (h.places - 1) reading (graph_head_from (h.places - 1) (length rules) reading)

abbrev pub under_rules : ℕ → List R.Rule → List ℕ → List ℕ → Verdict (List ℕ)
under_rules W rules heard reading = pick (eqb (field heard 0 4) 5) (under_graph W rules heard reading) (under_slots W rules heard reading)

-- the code's answer, with the walk at the front of an array
abbrev pub WalkIn : Verdict (List ℕ) → List ℕ → Type 0
WalkIn (accepted l) array = Begins l array
WalkIn (refused n) array = Unit {0}

abbrev pub Answered : Verdict (List ℕ) → Result ℕ Refusal → List ℕ → Type 0
Answered v r array = (as_verdict r ≡ counted v) × WalkIn v array
