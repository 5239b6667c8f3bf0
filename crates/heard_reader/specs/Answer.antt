-- What the reader of blocks of either kind answers: document 02, N1. Nobody need believe this page: no service's promise names it.
-- Assumes nothing.
use Rattle.std.specs.Prelude.{Bool, true, false, List, ◌≡◌, ℕ, ◌≤◌, length, Result, Ok, Err}
use Rattle.packing.specs.Meaning as M
use Rattle.packing.specs.Meaning.{slots, graph, last_place, heard_edges}
use Rattle.packing.specs.Parse.{Verdict, accepted, refused, ◌then◌}
use Rattle.packing.specs.Read.{as_verdict}
use Rattle.packing.specs.Flat.{Begins, Overlaid, edge_numbers}
use Rattle.packing.specs.declared.refusal.Refusal.{Refusal}
use Rattle.heard_reader.specs.declared.HeardSize.{HeardSize}

abbrev pub is_graph : M.Heard → Bool
is_graph (slots u) = false
is_graph (graph g) = true

-- the kind, the last place and the number of edges
abbrev pub heard_size : M.Heard → HeardSize
heard_size h = record { graph = is_graph h; last = last_place h; edges = length (heard_edges h) }

-- the edges stand at the front of the array, four numbers each
abbrev pub EdgesIn : Verdict M.Heard → List ℕ → Type 0
EdgesIn (accepted h) array = Begins (edge_numbers (heard_edges h)) array
EdgesIn (refused n) array = Unit {0}

-- and what stood behind them stands there still
abbrev pub EdgesOver : Verdict M.Heard → List ℕ → List ℕ → Type 0
EdgesOver (accepted h) before array = Overlaid (edge_numbers (heard_edges h)) before array
EdgesOver (refused n) before array = Unit {0}

-- the last place is from 1 to 24, and there are from 1 to 168 edges: 7 for each slot
abbrev pub Sized : Result HeardSize Refusal → Type 0
Sized (Ok z) = (1 ≤ z.last) × (z.last ≤ 24) × (1 ≤ z.edges) × (z.edges ≤ 168)
Sized (Err r) = Unit {0}

-- what the readers promise, of a verdict, the array and the answer
pub record Promised (v : Verdict M.Heard) (before after : List ℕ) (r : Result HeardSize Refusal) : Type 0 where
  pub answer : as_verdict r ≡ (v then λ h. accepted (heard_size h))
  pub edges : EdgesIn v after
  pub laid : EdgesOver v before after
  pub sized : Sized r
