-- What the reader of graph blocks answers: document 02, N1. Nobody need believe this page: no service's promise names it. Assumes
-- nothing.
use Rattle.std.specs.Prelude.{List, ℕ, ◌≤◌, length, Result, Ok, Err}
use Rattle.packing.specs.Meaning as M
use Rattle.packing.specs.Parse.{Verdict, accepted, refused}
use Rattle.packing.specs.Flat.{Begins, Overlaid, edge_numbers}
use Rattle.packing.specs.declared.refusal.Refusal.{Refusal}
use Rattle.graph_reader.specs.declared.GraphSize.{GraphSize}

-- P and the number of edges
abbrev pub graph_size : M.Graph → GraphSize
graph_size g = record { places = g.places; edges = length g.edges }

-- the edges stand at the front of the array, four numbers each
abbrev pub EdgesIn : Verdict M.Graph → List ℕ → Type 0
EdgesIn (accepted g) array = Begins (edge_numbers g.edges) array
EdgesIn (refused n) array = Unit {0}

-- and what stood behind them stands there still
abbrev pub EdgesOver : Verdict M.Graph → List ℕ → List ℕ → Type 0
EdgesOver (accepted g) before array = Overlaid (edge_numbers g.edges) before array
EdgesOver (refused n) before array = Unit {0}

-- from 2 to 25 places and from 1 to 96 edges
abbrev pub Sized : Result GraphSize Refusal → Type 0
Sized (Ok z) = (2 ≤ z.places) × (z.places ≤ 25) × (1 ≤ z.edges) × (z.edges ≤ 96)
Sized (Err r) = Unit {0}
