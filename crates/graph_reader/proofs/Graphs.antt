-- How far a graph reaches, and what its reader promises of it. Assumes nothing.
use mathlib.Core.Path.{◌≡◌, refl}
use mathlib.Core.List.{List, [], ◌∷◌, ◌++◌}
use Prim.Native.Nat.{ℕ, zero, suc, ◌+◌, ◌*◌, ◌≤◌}
use native.Mathlib.Omega.{arith}
use Rattle.std.specs.Prelude.{Ok}
use Rattle.packing.specs.Meaning.{Edge, edge, Graph}
use Rattle.packing.specs.Parse.{parsed, Verdict, accepted, ◌then◌}
use Rattle.packing.specs.Read.{as_verdict}
use Rattle.packing.specs.Source.{Source, field_at}
use Rattle.packing.specs.Flat.{Overlaid, edge_numbers}
use Rattle.packing.specs.Graph.{place_count, edge_count, edge_from, edges_alike, graph_edges_from, graph_from, graph_entries}
use Rattle.packing.specs.Alike.{any_like, unlike_from}
use Rattle.packing.specs.Valid.{ValidGraph}
use Rattle.packing.proofs.Parse.{through, same_parsed, parsed_else}
use Rattle.packing.proofs.Bounds.{field_at_range, field_at_next}
use Rattle.packing.proofs.Flat.{overlaid_begins}
use Rattle.graph_reader.specs.Answer.{graph_size, EdgesIn, EdgesOver, Sized}
use Rattle.graph_reader.specs.declared.GraphSize.{GraphSize}
use Rattle.graph_reader.proofs.Edges.{edge_near}

-- a graph takes at most 12 + 96 * 34 bits
module _ (src : Source) (W : ℕ) (few : W ≤ 200) where
  module _ (P : ℕ) (small : P ≤ 25) where
    edge_next : (at : ℕ) (e : Edge) {next : ℕ} → edge_from src W P at ≡ parsed e next → next ≤ at + 34
    edge_next at (edge i k x c) e = (edge_near src W P few small at e).3

    edges_next : (n at : ℕ) (es : List Edge) {fs : List Edge} {next : ℕ} → graph_edges_from src W P n at es ≡ parsed fs next → next ≤ at + 34 * n
    unfolding unlike_from
    edges_next zero at es e = same_parsed (λ fs next. next ≤ at + 34 * 0) e (omega arith)
    edges_next (suc n) at es e =
        through (edge_from src W P at) _ e λ f mid p e.
        let (a, d) = parsed_else (any_like edges_alike f es) _ _ e in
        omega (arith, edge_next at f p, edges_next n mid (es ++ (f ∷ [])) d)

  pub graph_near : (at : ℕ) {g : Graph} {next : ℕ} → graph_from src W at ≡ parsed g next → next ≤ at + 3276
  unfolding graph_from
  graph_near at e =
      through (field_at src at place_count) _ e λ P a p e. through (field_at src a edge_count) _ e λ n b q e.
      through (graph_edges_from src W P n b []) _ e λ es z k e.
      let r = field_at_range place_count src at p in
      let s = field_at_range edge_count src a q in
      let t = field_at_next place_count src at 5 (omega arith) (omega arith) p in
      let u = field_at_next edge_count src a 7 (omega arith) (omega arith) q in
      let v = edges_next P r.1 n b [] k in
      same_parsed (λ g next. next ≤ at + 3276) e (omega arith)

-- where it is accepted
pub promised_graph : (W : ℕ) {v : Verdict Graph} (before after : List ℕ) {g : Graph} {z : GraphSize} → v ≡ accepted g → ValidGraph W g → z ≡ graph_size g
    → Overlaid (edge_numbers g.edges) before after
    → (as_verdict (Ok z) ≡ (v then λ g. accepted (graph_size g))) × EdgesIn v after × Sized (Ok z) × EdgesOver v before after
unfolding graph_entries
promised_graph W before after {g} e (((a, b), ((c, d), h)), u) f s =
    rw (e, f) (refl, overlaid_begins (edge_numbers g.edges) before after s, (a, b, c, d), s)
