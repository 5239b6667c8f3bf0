-- The reading written from a rank that spells a derivation is the derivation's, packed: it has its weight and its nodes. Of slots the rule numbers of its
-- nodes are the walk.
use mathlib.Core.Path.{◌≡◌, refl, ap, ◌∙◌}
use mathlib.Core.List.{List, [], ◌∷◌, map, map-append}
use Prim.Native.Nat.{ℕ, ◌-◌, ◌≤◌}
use native.Mathlib.Omega.{arith}
use lib.ListN.{length, length-map}
use Rattle.packing.specs.Meaning.{Grammar, Heard, slots, graph, last_place, heard_edges}
use Rattle.packing.specs.Flat.{rule_at, node_rule, nodes_in}
use Rattle.packing.proofs.Flat.{by_rule}
use Rattle.derivation.specs.Derivation.{Tree, leaf, node, Derivation, walk, reading}
use Rattle.derivation.specs.Heard.{path_length, trace, graph_reading, packed}
use Rattle.derivation.proofs.Paths.{walk_path}
use Rattle.derivation.proofs.Trace.{trace_length}
use Rattle.derivation.proofs.Theorems.{nodes}
use Rattle.heard_reader.specs.Answer.{is_graph}
use Rattle.reading_writer.specs.Answer.{walk_in}
use Rattle.chart.specs.Chart.{lay_out, root_trace}
use Rattle.chart_theory.specs.Spelled.{names_edges}
use Rattle.chart_theory.proofs.Chart.{RootSpells}
use Rattle.chart_theory.proofs.Accepted.{layout}
use Rattle.traced_readings.specs.Model.{form_of, block_at}
use Rattle.traced_readings.specs.declared.Form.{Form}
use Rattle.traced_readings.proofs.Written.{path, stands_at}

-- a trace's rule numbers are the walk
walk_nodes : (rules l : List ℕ) → walk_in l ≡ map node_rule (nodes_in rules l)
unfolding walk_in nodes_in
walk_nodes rules [] = refl
walk_nodes rules (r ∷ []) = refl
walk_nodes rules (r ∷ e ∷ l) = rw (by_rule (rule_at rules r) r e, walk_nodes rules l)

walk_trace : (t : Tree) → map node_rule (trace t) ≡ walk t
unfolding trace walk
walk_trace (leaf r e) = refl
walk_trace (node r j s t) = ap (λ l. r ∷ l) (map-append node_rule (trace s) (trace t) ∙ rw (walk_trace s, walk_trace t))

-- the form of the readings of what was heard
abbrev pub form : Grammar → Heard → Form
form g h = form_of (is_graph h) (last_place h) (length g.rules)

module _ (g : Grammar) (N : ℕ) (rules t : List ℕ) where
  pub block_is : (h : Heard) → 1 ≤ last_place h → (x : ℕ) (z : Tree) → RootSpells (names_edges h) g (heard_edges h) rules (layout g h N) t x z
      → Derivation g h z → block_at t rules (layout g h N) (form g h) x ≡ packed g h z
  unfolding block_at lay_out reading graph_reading
  block_is (slots u) some x z has derived =
      let (m, p) = path t rules (layout g (slots u) N) x some in
      let walks : map node_rule (nodes_in rules (root_trace t rules (layout g (slots u) N) x)) ≡ walk z = has.nodes ∙ walk_trace z in
      let edges : m ≡ length u = omega (arith, p.nodes, simp length-map at (ap length walks), walk_path z, nodes g u z derived) in
      let stands = rw edges at (stands_at t rules (layout g (slots u) N) x some p) in
      rw (has.weighs, stands, walk_nodes rules, walks)
  block_is (graph h) some x z has derived =
      let (m, p) = path t rules (layout g (graph h) N) x some in
      let edges : m ≡ path_length z = omega (arith, p.nodes, ap length has.nodes, trace_length z) in
      rw (has.weighs, p.edges, stands_at t rules (layout g (graph h) N) x some p, has.nodes, edges)
