-- What the reader of a graph's reading blocks answers: document 02, N1. Nobody need believe this page: no service's promise names it.
-- Assumes nothing.
use Rattle.std.specs.Prelude.{◌≡◌, List, ℕ, ◌+◌, ◌^◌, ◌≤◌, ◌<◌, Option, Some, None, Result, Ok, Err}
use Rattle.packing.specs.Meaning as M
use Rattle.packing.specs.Parse.{Parse, parsed, failed, ◌⟫◌}
use Rattle.packing.specs.GraphReading as P
use Rattle.packing.specs.GraphReading.{graph_reading_bits}
use Rattle.packing.specs.Flat.{rule_at, node_by}
use Rattle.packing.specs.declared.refusal.Refusal.{Refusal}
use Rattle.graph_reading_reader.specs.declared.GraphHead.{GraphHead}
use Rattle.graph_reading_reader.specs.declared.Node.{Node}

-- n and the weight
abbrev pub head_of : GraphHead → P.GraphHead
head_of d = record { edges = d.edges; weight = d.weight }

-- and the place behind the reading
abbrev pub to_end : ℕ → Parse P.GraphHead → Parse P.GraphHead
to_end R p = p ⟫ λ d at. parsed d (graph_reading_bits d.edges R)

-- n is from 1 to `most`, and the place one that the block's end can be asked at
abbrev pub InPath : ℕ → Result (GraphHead × ℕ) Refusal → Type 0
InPath most (Ok (d, at)) = (1 ≤ d.edges) × (d.edges ≤ most) × (at < 2 ^ 16)
InPath most (Err r) = Unit {0}

-- a node that was read is of its rule's kind and stands within 15 bits
abbrev pub NodeAs : List ℕ → ℕ → Parse M.Node → Option (Node × ℕ) → Type 0
NodeAs rules at p (Some (x, next)) =
    (p ≡ parsed (node_by (rule_at rules x.rule) x.rule x.edge) next) × (next ≤ at + 15) × (x.rule < 2 ^ 32) × (x.edge < 2 ^ 32)
NodeAs rules at p None = (n : ℕ) × (p ≡ failed n)
