-- What a line says: a block that a derivation's reading was packed into is read as that reading. Of a graph, its head is read, and then
-- its nodes one after another, since each rule says whether an edge follows.
use mathlib.Core.Path.{◌≡◌, refl, sym, ap, ◌∙◌}
use mathlib.Core.Bool.{true, false, false≢true}
use mathlib.Core.List.{List}
use Prim.Native.Nat.{ℕ, ◌+◌, ◌-◌, ◌*◌, ◌/◌, ◌≤◌}
use native.Mathlib.Omega.{arith}
use lib.ListN.{length}
use Rattle.bits.specs.Fields.{widths}
use Rattle.packing.specs.Meaning.{Grammar, Utterance, Reading, edges, Graph, slots, graph}
use Rattle.packing.specs.Parse.{parsed, failed}
use Rattle.packing.specs.Source.{bytes, flds}
use Rattle.packing.specs.Reading.{reading_from, reading_entries, block_of_reading}
use Rattle.packing.specs.GraphReading.{GraphHead, graph_head_from, graph_reading_bits, graph_reading_length, trace_entries}
use Rattle.packing.specs.Flat.{Begins, rule_numbers}
use Rattle.packing.specs.Valid.{ValidGrammar, ValidUtterance, ValidGraph, ValidReading}
use Rattle.packing.proofs.Flat.{rules_of_lem}
use Rattle.packing.proofs.Taken.{Taken}
use Rattle.packing.proofs.Whole.{reading_block_back}
use Rattle.packing.proofs.GraphReading.{padded_taken, head_read, length_less}
use Rattle.derivation.specs.Derivation.{Tree, Derivation, weight, walk, reading}
use Rattle.derivation.specs.Heard.{path_length, trace, graph_reading, packed, output_length}
use Rattle.derivation.proofs.Path.{walk_read}
use Rattle.derivation.proofs.Paths.{walk_path}
use Rattle.derivation.proofs.Theorems.{nodes, reading_packs}
use Rattle.derivation.proofs.HeardReadings.{path, graph_reading_packs, packed_length}
use Rattle.reading_reader.specs.Answer.{weight_of, WalkIn}
use Rattle.graph_reading_reader.specs.Answer.{head_of, to_end}
use Rattle.graph_reading_reader.specs.declared.GraphHead as heads
use Rattle.reading_rows.specs.Model.{shape_of, Says, SlotsSay, WalkRead, GraphSays}
use Rattle.reading_rows.specs.declared.Line.{Line}
use Rattle.reading_rows.specs.declared.Shape.{Shape}

-- slots: what the reader of reading blocks says
module _ (s : Shape) (block array : List ℕ) (walked : WalkIn (reading_from s.last s.rules block) array) where
  -- the block is read
  back : (d : Reading) → ValidReading s.rules d → d.slots ≡ s.last → block ≡ block_of_reading s.rules d
      → reading_from s.last s.rules block ≡ parsed d (widths (flds (reading_entries s.rules d)))
  back d ok n b = rw (b, ← n) (reading_block_back s.rules d ok).0

  pub slots_read : {w at : ℕ} → parsed w at ≡ weight_of (reading_from s.last s.rules block)
      → SlotsSay s block (record { weight = w; nodes = 2 * s.last - 1 }) array
  slots_read {w} {at} answered d ok n b =
      let is = back d ok n b in
      let same : parsed w at ≡ parsed d.weight (widths (flds (reading_entries s.rules d))) = rw is at answered in
      let weights : w ≡ d.weight = cc in
      (weights, rw n, rw is at walked)

  pub slots_refused : {w m : ℕ} → failed m ≡ weight_of (reading_from s.last s.rules block)
      → SlotsSay s block (record { weight = w; nodes = 2 * s.last - 1 }) array
  slots_refused {m = m} answered d ok n b =
      let is = back d ok n b in
      let same : failed m ≡ parsed d.weight (widths (flds (reading_entries s.rules d))) = rw is at answered in
      let z : ◌≡◌ {A = ℕ} 0 1 = cc in
      absurd (omega arith)

-- what the reader of a graph's reading says
module _ (rules : List ℕ) (s : Shape) (block array : List ℕ) where
  pub graph_refused : {m : ℕ} → failed m ≡ to_end s.rules (graph_head_from s.last s.rules block) → {line : Line} → GraphSays rules s block line array
  graph_refused {m} answered d l next head nodes =
      let same : failed m ≡ parsed d (graph_reading_bits d.edges s.rules) = rw head at answered in
      let z : ◌≡◌ {A = ℕ} 0 1 = cc in
      absurd (omega arith)

  pub graph_read : (x : heads.GraphHead) {at : ℕ} → parsed (head_of x) at ≡ to_end s.rules (graph_head_from s.last s.rules block)
      → WalkRead rules s.rules (2 * x.edges - 1) block array
      → GraphSays rules s block (record { weight = x.weight; nodes = 2 * x.edges - 1 }) array
  graph_read x {at} answered walked d l next head nodes =
      let same : parsed (head_of x) at ≡ parsed d (graph_reading_bits d.edges s.rules) = rw head at answered in
      let one : head_of x ≡ d = cc in
      let weights : x.weight ≡ d.weight = ap (λ (y : GraphHead). y.weight) one in
      let edges : x.edges ≡ d.edges = ap (λ (y : GraphHead). y.edges) one in
      (weights, rw edges, walked l next (rw edges nodes))

room : (b n : ℕ) → (b + 7) / 8 ≤ n → b ≤ 8 * n
room b n h = omega arith

module _ (rules : List ℕ) (s : Shape) (block : List ℕ) (r : Line) (array : List ℕ) where
  graph_says : GraphSays rules s block r array → (g : Grammar) (h : Graph) (t : Tree) → ValidGrammar g → ValidGraph g.words h → Begins (rule_numbers g) rules
      → s ≡ shape_of g (graph h) → Derivation g (graph h) t → block ≡ packed g (graph h) t
      → (r.weight ≡ weight g h.edges t) × (r.nodes ≡ length (walk t)) × Begins (walk t) array
  unfolding graph_reading graph_reading_length
  graph_says say g h t ok valid stand shape d is =
      let R : ℕ = length g.rules in
      let L : ℕ = output_length g (graph h) in
      let v = graph_reading_packs g ok h valid t d in
      let (least, most) = path g ok (graph h) valid t d in
      let long : length block ≡ L = ap length is ∙ packed_length g ok (graph h) valid t d in
      let fits = room (graph_reading_bits (path_length t) R) (length block) (omega (arith, length_less (path_length t) (h.places - 1) R most)) in
      let taken = rw (← is) at (padded_taken R L (graph_reading g h t) v) in
      let (head, nodes) = head_read (h.places - 1) R block (graph_reading g h t) fits most taken in
      go head nodes
    where
      go : graph_head_from (h.places - 1) (length g.rules) block ≡ parsed (record { edges = path_length t; weight = weight g h.edges t }) 34
          → {mid : ℕ} → Taken (bytes 31 block) 34 (trace_entries (length g.rules) (trace t)) mid
          → (r.weight ≡ weight g h.edges t) × (r.nodes ≡ length (walk t)) × Begins (walk t) array
      go head {mid} nodes =
          let walked = walk_read g h.edges (bytes 31 block) d nodes (2 * path_length t - 1) refl in
          let (a, b, c) = say (record { edges = path_length t; weight = weight g h.edges t }) (walk t) mid (rw shape head)
          (rw (shape, rules_of_lem g rules stand) walked) in
          (a, b ∙ omega (arith, walk_path t), c)

  slots_says : SlotsSay s block r array → (g : Grammar) (u : Utterance) (t : Tree) → ValidGrammar g → ValidUtterance g.words u → s ≡ shape_of g (slots u)
      → Derivation g (slots u) t → block ≡ packed g (slots u) t
      → (r.weight ≡ weight g (edges u) t) × (r.nodes ≡ length (walk t)) × Begins (walk t) array
  unfolding reading
  slots_says say g u t ok valid shape d is =
      let (a, b, c) = say (reading g u t) (rw shape (reading_packs g u ok valid t d)) (rw shape) (rw shape is) in
      (a, b ∙ sym (nodes g u t d), c)

  pub says_graph : s.graph ≡ true → GraphSays rules s block r array → Says rules s block r array
  says_graph e say g (graph h) t ok valid stand shape d is = graph_says say g h t ok valid stand shape d is
  says_graph e say g (slots u) t ok valid stand shape d is = absurd (false≢true (sym (ap (λ (x : Shape). x.graph) shape) ∙ e))

  pub says_slots : s.graph ≡ false → SlotsSay s block r array → Says rules s block r array
  says_slots e say g (slots u) t ok valid stand shape d is = slots_says say g u t ok valid shape d is
  says_slots e say g (graph h) t ok valid stand shape d is = absurd (false≢true (sym e ∙ ap (λ (x : Shape). x.graph) shape))
