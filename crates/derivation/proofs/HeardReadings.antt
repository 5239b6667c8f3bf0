-- The readings of what was heard: of slots by document 01's theorems, of a graph since a packed reading, zeros behind it or not, decides
-- its trace, and that its derivation.
use mathlib.Core.Path.{◌≡◌, refl, ap}
use Prim.Native.Nat.{ℕ, ◌-◌, ◌*◌, ◌≤◌}
use native.Mathlib.Omega.{arith}
use lib.ListN.{length}
use Rattle.packing.specs.declared.Sym.{Sym}
use Rattle.packing.specs.Meaning.{Grammar, Reading, Graph, Heard, slots, graph, last_place, heard_edges, GraphReading}
use Rattle.packing.specs.Reading.{block_of_reading}
use Rattle.packing.specs.GraphReading.{graph_reading_length, padded, word_nodes}
use Rattle.packing.specs.Valid.{ValidGrammar, ValidReading, ValidGraph, ValidHeard, ValidGraphReading}
use Rattle.packing.proofs.Whole.{reading_block_back}
use Rattle.packing.proofs.Widths.{length_reading, length_small}
use Rattle.packing.proofs.Graph.{valid_places, valid_edge_count, valid_edge, one_edge}
use Rattle.packing.proofs.GraphReading.{length_graph_reading, length_less, length_padded, graph_length_small, graph_reading_valid, graph_reading_decided}
use Rattle.derivation.specs.Derivation.{Tree, leaf, Derives, by_word_rule, weight, Derivation, reading}
use Rattle.derivation.specs.Heard.{path_length, graph_reading, own_block, output_length, packed}
use Rattle.derivation.proofs.Ranges.{valid_rules, valid_light, valid_ascending, valid_cheap, valid_slots}
use Rattle.derivation.proofs.Slots.{CheapEdges, edges_apart, edges_short, edges_cheap}
use Rattle.derivation.proofs.Paths.{Forward, path_bound, forward_weight}
use Rattle.derivation.proofs.Theorems.{nodes, readings_differ, reading_packs}
use Rattle.derivation.proofs.Trace.{is_word_rule, trace_one, trace_length, trace_words, trace_below, trace_kinded}

-- the edges of what was heard go forward and cost at most 65,535, and its last place is at most 24
module _ (W : ℕ) where
  pub heard_forward : (h : Heard) → ValidHeard W h → Forward (heard_edges h)
  heard_forward (slots u) v e i k c x p = omega (arith, edges_short u e i k c x p)
  heard_forward (graph h) v e i k c x p = (valid_edge W h v e p).0

  pub heard_cheap : (h : Heard) → ValidHeard W h → CheapEdges (heard_edges h)
  heard_cheap (slots u) v e i k c x p = edges_cheap u (valid_cheap W u v) e i k c x p
  heard_cheap (graph h) v e i k c x p = (valid_edge W h v e p).3

  pub heard_last : (h : Heard) → ValidHeard W h → last_place h ≤ 24
  heard_last (slots u) v = valid_slots W u v
  heard_last (graph h) v = omega (arith, valid_places W h v)

  -- a start, an end and a word have one edge
  pub heard_one_edge : (h : Heard) → ValidHeard W h → {g : Grammar} {A : Sym} {i k r e f : ℕ} → Derives g (heard_edges h) A i k (leaf r e)
      → Derives g (heard_edges h) A i k (leaf r f) → e ≡ f
  heard_one_edge (slots u) v {i = i} {k = k} {e = e} {f = f} (by_word_rule {x = x} {c = c} p q) (by_word_rule {x = y} {c = d} p' q') =
      let same : y ≡ x = cc in
      edges_apart 0 u (valid_ascending W u v) e f i k k c d x q.0 (rw same at q'.0)
  heard_one_edge (graph h) v {i = i} {k = k} {e = e} {f = f} (by_word_rule {x = x} {c = c} p q) (by_word_rule {x = y} {c = d} p' q') =
      let same : y ≡ x = cc in
      one_edge h.edges v.1 e f i k c d x q.0 (rw same at q'.0)

module _ (g : Grammar) (ok : ValidGrammar g) where
  -- a path has from 1 edge to as many as there are places behind the first
  pub path : (h : Heard) → ValidHeard g.words h → (t : Tree) → Derivation g h t → (1 ≤ path_length t) × (path_length t ≤ last_place h)
  path h v t d = omega (arith, path_bound g (heard_edges h) (heard_forward g.words h v) d)

  pub heard_weight : (h : Heard) → ValidHeard g.words h → (t : Tree) → Derivation g h t → weight g (heard_edges h) t ≤ 4652985
  heard_weight h v t d =
      let b = forward_weight g (heard_edges h) (heard_forward g.words h v) (valid_light g ok) (heard_cheap g.words h v) d in
      omega (arith, heard_last g.words h v)

  module _ (h : Graph) (v : ValidGraph g.words h) where
    nodes_counted : (t : Tree) → Derivation g (graph h) t
        → (length (graph_reading g h t).trace ≡ 2 * (graph_reading g h t).edges - 1) × (word_nodes (graph_reading g h t).trace ≡ (graph_reading g h t).edges)
    unfolding graph_reading
    nodes_counted t d = (omega (arith, trace_length t), trace_words t)

    pub graph_reading_packs : (t : Tree) → Derivation g (graph h) t → ValidGraphReading (length g.rules) (graph_reading g h t)
    unfolding graph_reading
    graph_reading_packs t d =
        let (l, m) = path (graph h) v t d in
        let p = valid_places g.words h v in
        let n = valid_edge_count g.words h v in
        let (a, b) = nodes_counted t d in
        graph_reading_valid (length g.rules) (valid_rules g ok) (graph_reading g h t) l (omega arith) (omega (arith, heard_weight (graph h) v t d))
        a b (trace_below g h.edges (omega arith) d)

    -- with L bytes, the rest zeros
    graph_decided : (L : ℕ) (s t : Tree) → Derivation g (graph h) s → Derivation g (graph h) t
        → padded L (own_block g (graph h) s) ≡ padded L (own_block g (graph h) t) → s ≡ t
    unfolding graph_reading
    graph_decided L s t d e same =
        trace_one g h.edges d e (ap (λ (x : GraphReading). x.trace)
        (graph_reading_decided (is_word_rule g) (length g.rules) L (graph_reading g h s) (graph_reading g h t) (graph_reading_packs s d)
        (graph_reading_packs t e) (trace_kinded g h.edges d) (trace_kinded g h.edges e) same))

    -- its own length, and what fits into the output
    pub graph_own_length : (t : Tree) → Derivation g (graph h) t
        → (length (own_block g (graph h) t) ≡ graph_reading_length (path_length t) (length g.rules))
        × (length (own_block g (graph h) t) ≤ output_length g (graph h))
    unfolding graph_reading
    graph_own_length t d =
        let (a, b) = nodes_counted t d in
        let e = length_graph_reading (length g.rules) (graph_reading g h t) a b in
        let m = length_less (path_length t) (h.places - 1) (length g.rules) (path (graph h) v t d).1 in
        (e, omega arith)

  -- the reader gives back what was packed
  same_reading : (R : ℕ) (c d : Reading) → ValidReading R c → ValidReading R d → c.slots ≡ d.slots → block_of_reading R c ≡ block_of_reading R d → c ≡ d
  same_reading R c d v w n e =
      let p = (reading_block_back R c v).0 in
      let q = (reading_block_back R d w).0 in
      cc

  pub own_decided : (h : Heard) → ValidHeard g.words h → (s t : Tree) → Derivation g h s → Derivation g h t → own_block g h s ≡ own_block g h t → s ≡ t
  unfolding reading
  own_decided (slots u) v s t d e same =
      (readings_differ g u v s t d e).0
      (same_reading (length g.rules) (reading g u s) (reading g u t) (reading_packs g u ok v s d) (reading_packs g u ok v t e) refl same)
  own_decided (graph h) v s t d e same = graph_decided h v 0 s t d e (ap (padded 0) same)

  pub packed_decided : (h : Heard) → ValidHeard g.words h → (s t : Tree) → Derivation g h s → Derivation g h t → packed g h s ≡ packed g h t → s ≡ t
  packed_decided (slots u) v s t d e same = own_decided (slots u) v s t d e same
  packed_decided (graph h) v s t d e same = graph_decided h v (output_length g (graph h)) s t d e same

  pub packed_length : (h : Heard) → ValidHeard g.words h → (t : Tree) → Derivation g h t → length (packed g h t) ≡ output_length g h
  unfolding reading
  packed_length (slots u) v t d = length_reading (length g.rules) (reading g u t) (nodes g u t d)
  packed_length (graph h) v t d = length_padded (output_length g (graph h)) (own_block g (graph h) t) (graph_own_length h v t d).1

  pub output_small : (h : Heard) → ValidHeard g.words h → output_length g h ≤ 73
  output_small (slots u) v = omega (arith, length_small (length u) (length g.rules) (valid_slots g.words u v) (valid_rules g ok))
  output_small (graph h) v =
      graph_length_small (h.places - 1) (length g.rules) (heard_last g.words (graph h) v) (valid_rules g ok)
