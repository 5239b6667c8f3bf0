-- The theorems of graph blocks, of blocks of either kind, and of the readings of graphs: document 02, N1. A graph or a reading is valid
-- (specs/Valid.antt) if no condition of N1 holds of it, and a list of bytes is one of numbers below 256.
-- Assumes nothing.
use mathlib.Core.Path.{◌≡◌, refl, ap, ◌∙◌}
use mathlib.Core.Bool.{true}
use mathlib.Core.Logic.{◌↔◌}
use mathlib.Core.List.{List, []}
use Prim.Native.Nat.{ℕ, ◌≤◌}
use native.Mathlib.Omega.{arith}
use lib.ListN.{length}
use Rattle.bits.specs.Bits.{field, ended}
use Rattle.packing.specs.Meaning.{Utterance, edges, Graph, Heard, slots, graph, last_place, heard_edges, redrawn, GraphReading}
use Rattle.packing.specs.Parse.{parsed, failed, accepted, refused}
use Rattle.packing.specs.Utterance.{utterance_block, block_of_utterance}
use Rattle.packing.specs.Graph.{graph_block, block_of_graph}
use Rattle.packing.specs.Heard.{heard_block, block_of_heard}
use Rattle.packing.specs.GraphReading.{block_of_graph_reading, graph_reading_bits, graph_head_from, TraceIn}
use Rattle.packing.specs.Rows.{GraphBlockRow, HeardBlockRow, ReadingFieldsRow}
use Rattle.packing.specs.Valid.{Bytes, ValidUtterance, ValidGraph, ValidHeard, ValidGraphReading}
use Rattle.packing.proofs.Refusals.{refusal_number, stop_number}
use Rattle.packing.proofs.Graph.{graph_length}
use Rattle.packing.proofs.Heard.{graph_block_out, graph_block_back, heard_block_out, heard_block_back, slots_refuse, heard_refuses, no_block}
use Rattle.packing.proofs.GraphRefusals.{graph_block_row, heard_block_row, graph_head_row}
use Rattle.packing.proofs.Redrawn.{redrawn_valid}
use Rattle.packing.proofs.GraphReading.{length_graph_reading, graph_length_small, graph_reading_back, graph_reading_out}

-- under a grammar of W words
module _ (W : ℕ) where
  -- A block is accepted with the meaning g exactly if g is valid and the block is the one of g.
  pub graph_block_accepted : (s : List ℕ) (g : Graph) → 1 ≤ W → W ≤ 200 → Bytes s
      → (graph_block W s ≡ accepted g) ↔ (ValidGraph W g × (s ≡ block_of_graph W g))
  graph_block_accepted s g l h y =
      (λ e. let (v, p) = graph_block_out W s g e in (v, p y), λ (v, p). ap (graph_block W) p ∙ graph_block_back W g l h v)

  -- The same of either kind.
  pub heard_block_accepted : (s : List ℕ) (h : Heard) → 1 ≤ W → W ≤ 200 → Bytes s
      → (heard_block W s ≡ accepted h) ↔ (ValidHeard W h × (s ≡ block_of_heard W h))
  heard_block_accepted s h l m y =
      (λ e. let (v, p) = heard_block_out W s h e in (v, p y), λ (v, p). ap (heard_block W) p ∙ heard_block_back W h l m v)

  -- The longest graph block has 410 bytes.
  pub longest_graph : (s : List ℕ) (g : Graph) → 1 ≤ W → W ≤ 200 → Bytes s → graph_block W s ≡ accepted g → length s ≤ 410
  longest_graph s g l h y e = let (v, p) = graph_block_out W s g e in rw (p y) (graph_length W l h g v)

  -- A refusal is a number of its row: "11 to 14, 16 .. apply likewise", and 51 and 52. 15 and 42 do not come in a graph.
  pub graph_block_refused : (s : List ℕ) (n : ℕ) → graph_block W s ≡ refused n → GraphBlockRow n
  graph_block_refused s n = refusal_number (graph_block_row W s)

  pub heard_block_refused : (s : List ℕ) (n : ℕ) → heard_block W s ≡ refused n → HeardBlockRow n
  heard_block_refused s n = refusal_number (heard_block_row W s)

  -- An empty block has no kind; a kind other than 2 and 5 gives 12; and "elsewhere .. 5 gives 12".
  pub heard_empty : heard_block W [] ≡ refused 11
  heard_empty = no_block W

  pub heard_other_kind : (s : List ℕ) → 1 ≤ length s → (field s 0 4 ≡ 2 → ⊥) → (field s 0 4 ≡ 5 → ⊥) → heard_block W s ≡ refused 12
  heard_other_kind = heard_refuses W

  pub graph_elsewhere : (s : List ℕ) → 1 ≤ length s → field s 0 4 ≡ 5 → utterance_block W s ≡ refused 12
  graph_elsewhere s l k = slots_refuse W s l (λ z. omega arith)

  -- "slots with at most 96 words in all, redrawn as a graph": the graph is accepted, as the slots are, and its last place and its edges
  -- are theirs, so that the derivations and their order are the same.
  pub redrawn_accepted : (u : Utterance) → 1 ≤ W → W ≤ 200 → ValidUtterance W u → length (edges u) ≤ 96
      → (heard_block W (block_of_graph W (redrawn u)) ≡ accepted (graph (redrawn u)))
      × (heard_block W (block_of_utterance W u) ≡ accepted (slots u))
      × (last_place (graph (redrawn u)) ≡ last_place (slots u)) × (heard_edges (graph (redrawn u)) ≡ heard_edges (slots u))
  redrawn_accepted u l h v few =
      (heard_block_back W (graph (redrawn u)) l h (redrawn_valid W u v few), heard_block_back W (slots u) l h v, omega arith, refl)

-- A reading's block, for paths of at most `most` edges and under a grammar of R rules, is the one that has its n and its weight, the
-- bits of its nodes behind them, and its end behind these.
pub graph_reading_accepted : (most R : ℕ) (s : List ℕ) (d : GraphReading) → Bytes s → ValidGraphReading R d → d.edges ≤ most
    → (s ≡ block_of_graph_reading R d)
    ↔ ((graph_head_from most R s ≡ parsed (record { edges = d.edges; weight = d.weight }) 34) × TraceIn R d.trace s
    × (ended s (graph_reading_bits d.edges R) ≡ true))
graph_reading_accepted most R s d y v h = (graph_reading_back most R s d v h, graph_reading_out most R s d v y)

-- The longest has 73 bytes.
pub longest_graph_reading : (R : ℕ) (d : GraphReading) → R ≤ 256 → d.edges ≤ 24 → ValidGraphReading R d → length (block_of_graph_reading R d) ≤ 73
longest_graph_reading R d r n v = rw (length_graph_reading R d v.2 v.3) (graph_length_small d.edges R n r)

-- Up to the weight it is refused with 31 to 33.
pub graph_reading_refused : (most R : ℕ) (s : List ℕ) (n : ℕ) → graph_head_from most R s ≡ failed n → ReadingFieldsRow n
graph_reading_refused most R s n = stop_number (graph_head_row most R s)
