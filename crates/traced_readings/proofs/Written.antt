-- A reading written from any table has the bytes of its form. Of a graph it fits into L bytes whatever the table holds, since its trace has no more
-- nodes, and no more of them by word rules, than a path over all places.
use mathlib.Core.Path.{◌≡◌, refl, ap, sym, ◌∙◌}
use mathlib.Core.Bool.{Bool, true, false}
use mathlib.Core.List.{List, [], ◌++◌, append_assoc, append-nil}
use Prim.Native.Nat.{ℕ, suc, ◌+◌, ◌-◌, ◌*◌, ◌/◌, ◌≤◌}
use native.Mathlib.Nat.{le_refl, mul-le-mul_right}
use native.Mathlib.Omega.{arith}
use lib.ListN.{length, take, drop, replicate, length-append, length-replicate, replicate-append-replicate}
use lib.Seq.{length-take-le, take_at, drop_at}
use Rattle.bits.specs.Fields.{widths}
use Rattle.bits.specs.Width.{width_of}
use Rattle.bits.proofs.Fields as Fields
use Rattle.packing.specs.Meaning.{GraphReading}
use Rattle.packing.specs.Flat.{nodes_in}
use Rattle.packing.specs.Source.{flds}
use Rattle.packing.specs.Store.{store_all}
use Rattle.packing.specs.Reading.{block_of_reading, reading_length}
use Rattle.packing.specs.GraphReading.{trace_entries, graph_reading_entries, block_of_graph_reading, graph_reading_length, padded, word_nodes}
use Rattle.packing.proofs.Store.{length_store, store_at}
use Rattle.packing.proofs.Widths.{length_reading}
use Rattle.packing.proofs.GraphReading.{trace_bits, length_padded}
use Rattle.reading_writer.specs.Answer.{reading_of}
use Rattle.reading_writer.proofs.Walk.{walk_length}
use Rattle.graph_reading_writer.specs.Answer.{graph_reading_of}
use Rattle.chart_table.specs.declared.Layout.{Layout}
use Rattle.chart_table.specs.Table.{root}
use Rattle.chart_trace.proofs.Shape.{Shape, shape}
use Rattle.chart.specs.Chart.{root_weight, root_trace}
use Rattle.traced_readings.specs.Model.{FormFor, trace_numbers, trace_in, trace_at, edges_at, Traced, block_at}
use Rattle.traced_readings.specs.declared.Form.{Form}

abbrev zeros : ℕ → List ℕ
zeros n = replicate n 0

zeros_split : (a b c : ℕ) → a + b ≡ c → zeros a ++ zeros b ≡ zeros c
zeros_split a b c e = replicate-append-replicate {A = ℕ} a b 0 ∙ ap zeros e

-- a list in an array of zeros stands in front of the zeros that are left
stored : (room : ℕ) (l : List ℕ) → length l ≤ room → store_all (zeros room) 0 l ≡ l ++ zeros (room - length l)
stored room l h =
    let all : 0 + length l ≡ length l = omega arith in
    let rest : drop (0 + length l) (zeros room) ≡ zeros (room - length l) =
    rw (all, ← zeros_split (length l) (room - length l) room (omega arith))
    (drop_at (zeros (length l)) (zeros (room - length l)) (length l) (length-replicate {A = ℕ} (length l) 0)) in
    store_at (zeros room) 0 l (rw (length-replicate, all) h) ∙ ap (λ (r : List ℕ). l ++ r) rest

-- a trace of m edges stands in front of the array that it is traced into
front : (room : ℕ) (l : List ℕ) (m : ℕ) → length l + 2 ≡ 4 * m → trace_numbers m ≤ room → take (trace_numbers m) (store_all (zeros room) 0 l) ≡ l
front room l m e h = rw (stored room l (omega arith)) (take_at l (zeros (room - length l)) (trace_numbers m) (omega arith))

-- an array that is longer than it need be is the same in front
cut : (room k : ℕ) (l : List ℕ) → length l ≤ k → k ≤ room → take k (store_all (zeros room) 0 l) ≡ store_all (zeros k) 0 l
cut room k l short h =
    let head : List ℕ = l ++ zeros (k - length l) in
    let size : length head ≡ k = rw (length-append, length-replicate) (omega arith) in
    let whole : store_all (zeros room) 0 l ≡ head ++ zeros (room - k) =
    stored room l (omega arith) ∙ ap (λ (r : List ℕ). l ++ r) (sym (zeros_split (k - length l) (room - k) (room - length l) (omega arith)))
    ∙ sym (append_assoc l (zeros (k - length l)) (zeros (room - k))) in
    ap (take k) whole ∙ take_at head (zeros (room - k)) k size ∙ sym (stored k l short)

-- rank x of the root of any table, in an array with room for a path over all places
module _ (t rules : List ℕ) (d : Layout) (x : ℕ) (some : 1 ≤ d.last) where
  -- a path of m edges is traced
  pub record Path (m : ℕ) : Type 0 where
    pub some_edge : 1 ≤ m
    pub few : m ≤ d.last
    pub edges : edges_at t rules d x ≡ m
    pub stands : (room : ℕ) → trace_numbers d.last ≤ room → take (trace_numbers m) (trace_in room t rules d x) ≡ root_trace t rules d x
    pub numbers : length (root_trace t rules d x) ≤ trace_numbers d.last
    pub nodes : suc (length (nodes_in rules (root_trace t rules d x))) ≡ 2 * m
    pub words : word_nodes (nodes_in rules (root_trace t rules d x)) ≤ m

  alone : (m : ℕ) → Shape rules (root_trace t rules d x) m
      → (suc (length (nodes_in rules (root_trace t rules d x))) ≡ 2 * m) × (word_nodes (nodes_in rules (root_trace t rules d x)) ≤ m)
  unfolding nodes_in word_nodes
  alone m s =
      let n : suc (length (nodes_in rules (root_trace t rules d x ++ []))) ≡ 2 * m + 0 = s.nodes [] in
      let w : word_nodes (nodes_in rules (root_trace t rules d x ++ [])) ≤ m + 0 = s.words [] in
      let n' = rw (append-nil (root_trace t rules d x)) at n in
      let w' = rw (append-nil (root_trace t rules d x)) at w in
      (omega arith, omega arith)

  pub path : (m : ℕ) × Path m
  unfolding root_trace
  path =
      let (m, few, s) = shape t rules d d.last (root d) x some (omega arith) in (
        m,
        record {
          some_edge = omega (arith, s.numbers);
          few = omega arith;
          edges = omega (arith, s.numbers);
          stands = λ room long. front room _ m s.numbers (omega arith);
          numbers = omega (arith, s.numbers);
          nodes = (alone m s).0;
          words = (alone m s).1;
        },
      )

  -- in an array for a path over all places
  pub stands_at : {m : ℕ} → Path m → take (trace_numbers m) (trace_at t rules d x) ≡ root_trace t rules d x
  stands_at p = p.stands (trace_numbers d.last) (le_refl _)

  -- its reading as that of a graph, and what it fits into
  abbrev graph_reading_at : GraphReading
  graph_reading_at = graph_reading_of rules (edges_at t rules d x) (root_weight t d x) (trace_at t rules d x)

  graph_room : (R : ℕ) → 34 + widths (flds (trace_entries R graph_reading_at.trace)) ≤ 8 * graph_reading_length d.last R
  unfolding graph_reading_length
  graph_room R =
      let (m, p) = path in
      let xs = nodes_in rules (root_trace t rules d x) in
      let few : length xs * width_of (R - 1) ≤ (2 * d.last - 1) * width_of (R - 1) = mul-le-mul_right (width_of (R - 1)) (omega (arith, p.nodes, p.few)) in
      rw (p.edges, stands_at p, trace_bits R xs) (omega (arith, few, p.words, p.few))

  graph_fits : (R : ℕ) → length (block_of_graph_reading R graph_reading_at) ≤ graph_reading_length d.last R
  unfolding block_of_graph_reading graph_reading_entries widths
  graph_fits R = rw Fields.length_block (omega (arith, graph_room R))

  -- the bytes of a reading, of either kind
  pub length_at : {limit : ℕ} (f : Form) → FormFor limit d.last f → length (block_at t rules d f x) ≡ f.size
  unfolding block_at
  length_at f form = go f.graph refl
    where
      go : (b : Bool) → f.graph ≡ b → length (block_at t rules d f x) ≡ f.size
      go true e =
          let size : f.size ≡ graph_reading_length d.last f.rules = rw e at form.size in
          rw e (length_padded f.size (block_of_graph_reading f.rules graph_reading_at) (rw size (graph_fits f.rules)))
      go false e =
          let size : f.size ≡ reading_length d.last f.rules = rw e at form.size in
          rw (e, size) (length_reading f.rules (reading_of d.last (root_weight t d x) (trace_at t rules d x))
          (walk_length (2 * d.last - 1) (take (trace_numbers d.last) (trace_at t rules d x))
          (length-take-le (trace_numbers d.last) (trace_at t rules d x) (rw (length_store, length-replicate) (le_refl _)))))

  -- what the writers are given, from an array with more room than they need
  pub record Given (R size n : ℕ) (trace : List ℕ) : Type 0 where
    pub some_edge : 1 ≤ n
    pub few : n ≤ d.last
    pub long : trace_numbers n ≤ length trace
    pub room : 34 + widths (flds (trace_entries R (nodes_in rules (take (trace_numbers n) trace)))) ≤ 8 * size

  module _ {room numbers : ℕ} {trace : List ℕ} (traced : Traced room trace t rules d x numbers) (enough : trace_numbers d.last ≤ room) where
    pub trace_long : trace_numbers d.last ≤ length trace
    trace_long = rw (traced.stands, length_store, length-replicate) enough

    same_front : {m : ℕ} → Path m → take (trace_numbers m) trace ≡ take (trace_numbers m) (trace_at t rules d x)
    same_front p = rw traced.stands (p.stands room enough ∙ sym (stands_at p))

    same_whole : take (trace_numbers d.last) trace ≡ take (trace_numbers d.last) (trace_at t rules d x)
    same_whole =
        let (m, p) = path in
        let k = trace_numbers d.last in
        let l = root_trace t rules d x in
        rw traced.stands (cut room k l p.numbers enough ∙ sym (cut k k l p.numbers (le_refl k)))

    edges_is : (numbers / 2 + 1) / 2 ≡ edges_at t rules d x
    edges_is = ap (λ (k : ℕ). (k / 2 + 1) / 2) traced.count

    pub given : {limit : ℕ} (f : Form) → FormFor limit d.last f → f.graph ≡ true → Given f.rules f.size ((numbers / 2 + 1) / 2) trace
    given f form is =
        let (m, p) = path in
        let size : f.size ≡ graph_reading_length d.last f.rules = rw is at form.size in
        let all = rw p.edges at (graph_room f.rules) in
        rw (edges_is, p.edges) (record {
          some_edge = p.some_edge;
          few = p.few;
          long = omega (arith, p.few, trace_long);
          room = rw (size, same_front p) all;
        })

    -- one reading of a graph, and one of slots
    pub graph_written : (f : Form) (out : List ℕ) {w : ℕ} {out' : List ℕ} → f.graph ≡ true → w ≡ root_weight t d x
        → out' ≡ padded f.size (block_of_graph_reading f.rules (graph_reading_of rules ((numbers / 2 + 1) / 2) w trace)) ++ drop f.size out
        → out' ≡ block_at t rules d f x ++ drop f.size out
    unfolding block_at
    graph_written f out is e o = let (m, p) = path in o ∙ rw (is, e, edges_is, p.edges, same_front p)

    pub slots_written : {limit : ℕ} (f : Form) (out : List ℕ) {w : ℕ} {out' : List ℕ} → FormFor limit d.last f → f.graph ≡ false → w ≡ root_weight t d x
        → out' ≡ block_of_reading f.rules (reading_of d.last w trace) ++ drop (length (block_of_reading f.rules (reading_of d.last w trace))) out
        → out' ≡ block_at t rules d f x ++ drop f.size out
    unfolding block_at
    slots_written f out form is e o =
        let size : length (block_of_reading f.rules (reading_of d.last (root_weight t d x) (trace_at t rules d x))) ≡ f.size =
        rw is at (length_at f form) in
        o ∙ rw (is, e, same_whole, size)
