-- Blocks of either kind under a grammar of W words: document 02, N1, "Listing, lister and check take kind 2 or 5". Assumes nothing.
use Rattle.std.specs.Prelude.{List, ℕ, eqb}
use Rattle.bits.specs.Bits.{pick, field}
use Rattle.packing.specs.Meaning.{Heard, slots, graph}
use Rattle.packing.specs.Parse.{Verdict, accepted, ◌then◌}
use Rattle.packing.specs.Utterance.{utterance_block, block_of_utterance}
use Rattle.packing.specs.Graph.{graph_block, block_of_graph}

-- a block read as slots, and as a graph
abbrev pub as_slots : ℕ → List ℕ → Verdict Heard
as_slots W s = utterance_block W s then λ u. accepted (slots u)

abbrev pub as_graph : ℕ → List ℕ → Verdict Heard
as_graph W s = graph_block W s then λ g. accepted (graph g)

-- the meaning of a block: of kind 5 a graph, else slots, which refuse any other kind but 2. An empty block has no kind, and as slots gives 11
unfoldable pub heard_block : ℕ → List ℕ → Verdict Heard
heard_block W s = pick (eqb (field s 0 4) 5) (as_graph W s) (as_slots W s)

-- and its block
abbrev pub block_of_heard : ℕ → Heard → List ℕ
block_of_heard W (slots u) = block_of_utterance W u
block_of_heard W (graph g) = block_of_graph W g
