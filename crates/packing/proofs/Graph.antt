-- A graph is read from a source exactly if its entries are taken there and no two of its edges are alike. Every value of a valid graph
-- can be written in its field's width, and its block has at most 410 bytes, since an edge takes at most 34 bits.
-- Assumes nothing.
use mathlib.Core.Path.{◌≡◌, refl, sym, ap, ◌∙◌}
use mathlib.Core.Bool.{Bool, true, false, false≢true}
use mathlib.Core.List.{List, [], ◌∷◌, map-append}
use mathlib.Core.Option.{some}
use Prim.Native.Nat.{ℕ, zero, suc, ◌-◌, ◌*◌, ◌≤◌, ◌<◌}
use native.Mathlib.Omega.{arith}
use borrow.Author.Tests.{eq-eqb}
use lib.ListN.{length, get_elem?}
use Rattle.bits.specs.Bits.{pick}
use Rattle.bits.specs.Fields.{widths}
use Rattle.bits.proofs.Fields.{widths_append, length_block}
use Rattle.packing.specs.Meaning.{Edge, edge, Graph}
use Rattle.packing.specs.declared.Word.{Word}
use Rattle.packing.specs.Parse.{parsed}
use Rattle.packing.specs.Source.{Source, field_at, fld_of, flds}
use Rattle.packing.specs.Alike.{any_like, NoTwo}
use Rattle.packing.specs.Utterance.{cost}
use Rattle.packing.specs.Graph.{
  place_count,
  edge_count,
  start_place,
  end_place,
  edge_word,
  edge_from,
  edges_alike,
  graph_edges_from,
  graph_from,
  edge_entries,
  edges_entries,
  graph_entries,
  block_of_graph,
}
use Rattle.packing.specs.Valid.{InRange, InWidth, Each, Fits, ValidGraph}
use Rattle.packing.proofs.Parse.{through, same_parsed}
use Rattle.packing.proofs.Entries.{each_left, each_right, each_join}
use Rattle.packing.proofs.Taken.{Taken, all, more}
use Rattle.packing.proofs.Alike.{eqb_sym, all_of, unlike_all, all_unlike}
use Rattle.packing.proofs.Widths.{byte_width, number_room}

edges_sym : (e d : Edge) → edges_alike e d ≡ edges_alike d e
edges_sym (edge i k w c) (edge i' k' w' c') = rw (eqb_sym i i', eqb_sym k k', eqb_sym w.0 w'.0)

module _ (src : Source) (W P : ℕ) where
  pub edge_out : (at : ℕ) {e : Edge} {next : ℕ} → edge_from src W P at ≡ parsed e next → Taken src at (edge_entries W P e) next
  unfolding edge_from
  edge_out at e =
      through (field_at src at start_place) _ e λ i a p e. through (field_at src a (end_place P i)) _ e λ k b q e.
      through (field_at src b (edge_word W)) _ e λ w d r e. through (field_at src d cost) _ e λ c z s e.
      same_parsed (λ f next. Taken src at (edge_entries W P f) next) e (more p (more q (more r (more s all))))

  edge_back : {at : ℕ} (e : Edge) {next : ℕ} → Taken src at (edge_entries W P e) next → edge_from src W P at ≡ parsed e next
  unfolding edge_from
  edge_back (edge i k w c) (more p (more q (more r (more s all)))) = rw (p, q, r, s)

  -- an edge is sound as it is
  edges_out : (n at : ℕ) {es : List Edge} {next : ℕ} → graph_edges_from src W P n at [] ≡ parsed es next
      → (length es ≡ n) × NoTwo edges_alike es × Taken src at (edges_entries W P es) next
  unfolding edges_entries
  edges_out n at e =
      let (l, unlike, _, t) =
      unlike_all src (edge_from src W P) edges_alike 52 (edge_entries W P) (edges_entries W P) refl (λ e es. refl) (λ e. Unit {0}) edges_sym
      (λ at e next p. (tt, edge_out at p)) n at e in
      (l, unlike, t)

  edges_back : {at : ℕ} (es : List Edge) {next : ℕ} → NoTwo edges_alike es → Taken src at (edges_entries W P es) next
      → graph_edges_from src W P (length es) at [] ≡ parsed es next
  unfolding edges_entries
  edges_back es u t =
      all_unlike src (edge_from src W P) edges_alike 52 (edge_entries W P) (edges_entries W P) refl (λ e es. refl) (λ e. Unit {0}) edges_sym
      (λ at e next s. edge_back e) es u (all_of (λ e. tt) es) t

-- a graph stands in the source, from a place to the next
module _ (src : Source) (W : ℕ) where
  abbrev pub Reads : ℕ → Graph → ℕ → Type 0
  Reads at g next = Taken src at (graph_entries W g) next × NoTwo edges_alike g.edges

  pub graph_out : (at : ℕ) {g : Graph} {next : ℕ} → graph_from src W at ≡ parsed g next → Reads at g next
  unfolding graph_from graph_entries
  graph_out at e =
      through (field_at src at place_count) _ e λ P a p e. through (field_at src a edge_count) _ e λ n b q e.
      through (graph_edges_from src W P n b []) _ e λ es z k e.
      let (l, unlike, t) = edges_out src W P n b k in
      let y : Reads at (record { places = P; edges = es }) z = rw l (more p (more q t), unlike) in
      same_parsed (Reads at) e y

  pub graph_back : {at : ℕ} (g : Graph) {next : ℕ} → Reads at g next → graph_from src W at ≡ parsed g next
  unfolding graph_from graph_entries
  graph_back g (more a (more b t), u) = rw (a, b, edges_back src W g.places g.edges u t)

-- room for its values, and its length
module _ (W : ℕ) (w : 1 ≤ W) (W≤ : W ≤ 200) where
  module _ (P : ℕ) (P≤ : P ≤ 25) where
    edge_room : (e : Edge) → Fits (edge_entries W P e) → Each InWidth (edge_entries W P e)
    edge_room (edge i k x c) (a, (b, (d, (e, f)))) = (omega arith, (omega arith, (number_room x.0 W w (omega arith) d.1, (omega arith, tt))))

    edges_room : (es : List Edge) → Fits (edges_entries W P es) → Each InWidth (edges_entries W P es)
    unfolding edges_entries
    edges_room [] h = tt
    edges_room (e ∷ es) h =
        let ds = edge_entries W P e in
        let fs = edges_entries W P es in
        each_join InWidth ds fs (edge_room e (each_left InRange ds fs h)) (edges_room es (each_right InRange ds fs h))

    edge_bits : (e : Edge) → widths (flds (edge_entries W P e)) ≤ 34
    unfolding widths
    edge_bits (edge i k x c) = omega (arith, byte_width W (omega arith))

    edges_bits : (es : List Edge) → widths (flds (edges_entries W P es)) ≤ 34 * length es
    unfolding edges_entries widths
    edges_bits [] = omega arith
    edges_bits (e ∷ es) =
        rw (map-append fld_of (edge_entries W P e) (edges_entries W P es), widths_append) (omega (arith, edge_bits e, edges_bits es))

  pub graph_room : (g : Graph) → Fits (graph_entries W g) → Each InWidth (graph_entries W g)
  unfolding graph_entries
  graph_room g (a, (b, h)) = (omega arith, (omega arith, edges_room g.places a.1 g.edges h))

  pub graph_length : (g : Graph) → ValidGraph W g → length (block_of_graph W g) ≤ 410
  unfolding block_of_graph graph_entries widths
  graph_length g ((a, (b, h)), u) = rw length_block (omega (arith, edges_bits g.places a.1 g.edges))

-- what its entries say of a valid graph: from 2 to 25 places, from 1 to 96 edges, and each goes forward within them
module _ (W : ℕ) (g : Graph) (v : ValidGraph W g) where
  pub valid_places : (2 ≤ g.places) × (g.places ≤ 25)
  unfolding graph_entries
  valid_places = v.0.0

  pub valid_edge_count : (1 ≤ length g.edges) × (length g.edges ≤ 96)
  unfolding graph_entries
  valid_edge_count = v.0.1.0

edge_fits : (W P : ℕ) (es : List Edge) → Fits (edges_entries W P es) → (n : ℕ) {i k c : ℕ} {x : Word} → get_elem? es n ≡ some (edge i k x c)
    → (i < k) × (k ≤ P - 1) × (x.0 ≤ W - 1) × (c ≤ 65535)
unfolding edges_entries
edge_fits W P [] f n e = let z : ◌≡◌ {A = ℕ} 0 1 = cc in absurd (omega arith)
edge_fits W P (edge j l y d ∷ es) (p, (q, (r, (s, f)))) zero {i} {k} {c} {x} e =
    let a : j ≡ i = cc in
    let b : l ≡ k = cc in
    let t : y ≡ x = cc in
    let u : d ≡ c = cc in
    rw (← a, ← b, ← t, ← u) (q.0, q.1, r.1, s.1)
edge_fits W P (edge j l y d ∷ es) (p, (q, (r, (s, f)))) (suc n) e = edge_fits W P es f n e

pub valid_edge : (W : ℕ) (g : Graph) → ValidGraph W g → (n : ℕ) {i k c : ℕ} {x : Word} → get_elem? g.edges n ≡ some (edge i k x c)
    → (i < k) × (k ≤ g.places - 1) × (x.0 ≤ W - 1) × (c ≤ 65535)
unfolding graph_entries
valid_edge W g ((p, (q, f)), u) n e = edge_fits W g.places g.edges f n e

-- no two edges of a list of which none are alike have one start, one end and one word
like_itself : (es : List Edge) (n i k c d : ℕ) (x : Word) → get_elem? es n ≡ some (edge i k x d) → any_like edges_alike (edge i k x c) es ≡ true
unfolding any_like
like_itself [] n i k c d x e = let z : ◌≡◌ {A = ℕ} 0 1 = cc in absurd (omega arith)
like_itself (f ∷ es) zero i k c d x e =
    let a : f ≡ edge i k x d = cc in
    rw (a, eq-eqb i i refl, eq-eqb k k refl, eq-eqb x.0 x.0 refl)
like_itself (f ∷ es) (suc n) i k c d x e = rw (like_itself es n i k c d x e) (either (edges_alike (edge i k x c) f))
  where
    either : (b : Bool) → pick b true true ≡ true
    either true = refl
    either false = refl

pub one_edge : (es : List Edge) → NoTwo edges_alike es → (m n i k c d : ℕ) (x : Word) → get_elem? es m ≡ some (edge i k x c)
    → get_elem? es n ≡ some (edge i k x d) → m ≡ n
one_edge [] u m n i k c d x e f = let z : ◌≡◌ {A = ℕ} 0 1 = cc in absurd (omega arith)
one_edge (g ∷ es) u zero zero i k c d x e f = refl
one_edge (g ∷ es) (p, u) zero (suc n) i k c d x e f =
    let a : g ≡ edge i k x c = cc in
    absurd (false≢true (sym p ∙ rw a (like_itself es n i k c d x f)))
one_edge (g ∷ es) (p, u) (suc m) zero i k c d x e f =
    let a : g ≡ edge i k x d = cc in
    absurd (false≢true (sym p ∙ rw a (like_itself es m i k d c x e)))
one_edge (g ∷ es) (p, u) (suc m) (suc n) i k c d x e f = ap suc (one_edge es u m n i k c d x e f)
