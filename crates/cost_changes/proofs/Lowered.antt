-- One cost lowered: of an utterance's edges it is one edge's, and a derivation that uses the edge falls by as much, any other keeps its
-- weight.
use mathlib.Core.Path.{◌≡◌, refl, sym, ap, ◌∙◌, subst}
use mathlib.Core.Bool.{Bool, true, false}
use mathlib.Core.Option.{Option, none, some}
use mathlib.Core.List.{List, [], ◌∷◌, ◌++◌, map}
use Prim.Native.Nat.{ℕ, zero, suc, ◌+◌, ◌-◌, ◌≤◌, ◌<◌}
use native.Mathlib.Omega.{arith}
use native.Mathlib.Decide.{ℕ_discrete}
use lib.Dec.{eqb}
use lib.ListN.{length, get_elem?}
use borrow.Author.Tests.{eqb-true, eq-eqb, ne_eqb}
use Rattle.bits.specs.Bits.{pick}
use Rattle.packing.specs.declared.Sym.{Sym}
use Rattle.packing.specs.declared.Word as W
use Rattle.packing.specs.Meaning.{not_heard, Grammar, Utterance, Candidate, candidate, Edge, edge, slot_edges, edges_from, edges}
use Rattle.derivation.specs.Derivation.{At, Tree, edge_cost, Derives, weight}
use Rattle.derivation.proofs.Lists.{none≢some, at_map}
use Rattle.derivation.proofs.Paths.{Forward}
use Rattle.derivation.proofs.Ranges.{Ascending}
use Rattle.derivation.proofs.Slots.{edges_apart}
use Rattle.derivation.proofs.Trees.{same_word}
use Rattle.cost_changes.specs.Costs.{cost_at, edges_of, Uses}
use Rattle.cost_changes.specs.Margins.{lower_in, lower_word}
use Rattle.cost_changes.proofs.Sums.{total_upto, total_from, total_single}
use Rattle.cost_changes.proofs.Alike.{Alike}
use Rattle.cost_changes.proofs.Weights.{weight_parts, weight_same}
use Rattle.cost_changes.proofs.Once.{used_once}

-- fs are the edges es with the cost of edge e alone lowered by d
pub record Lowered (d e : ℕ) (es fs : List Edge) : Type 0 where
  pub alike : Alike es fs
  pub own : cost_at fs e ≡ cost_at es e - d
  pub other : (f : ℕ) → ¬ (f ≡ e) → cost_at fs f ≡ cost_at es f

module _ (g : Grammar) (d e : ℕ) (es fs : List Edge) (l : Lowered d e es fs) where
  pub falls : {A : Sym} {i k : ℕ} {t : Tree} → Forward es → d ≤ cost_at es e → Derives g es A i k t → Uses t e
      → weight g fs t + d ≡ weight g es t
  falls {t = t} fw h p u =
      let less : ℕ → ℕ = λ f. cost_at es f - cost_at fs f in
      omega (
        arith,
        weight_parts g es t,
        weight_parts g fs t,
        total_upto (cost_at es) (cost_at fs) less (edges_of t) (λ f m. omega arith),
        total_from (cost_at es) (cost_at fs) less (edges_of t) (λ f m. go f (ℕ_discrete f e)),
        total_single less (edges_of t) e (used_once g es fw p) u (λ f n. omega (arith, l.other f n)),
        l.own,
      )
    where
      go : (f : ℕ) → Dec (f ≡ e) → cost_at fs f + (cost_at es f - cost_at fs f) ≤ cost_at es f
      go f (yes q) = rw q (omega (arith, l.own))
      go f (no q) = omega (arith, l.other f q)

  pub keeps : (t : Tree) → ¬ Uses t e → weight g fs t ≡ weight g es t
  keeps t n = weight_same g fs es t (λ f m. l.other f (λ p. n (rw p at m)))

-- an edge with its cost lowered, if it goes from s by word x
unfoldable lower_edge : ℕ → ℕ → W.Word → Edge → Edge
lower_edge d s x (edge i k y c) = edge i k y (pick (eqb i s) (pick (eqb y.0 x.0) (c - d) c) c)

map_append : {A B : Type 0} (f : A → B) (l m : List A) → map f (l ++ m) ≡ map f l ++ map f m
map_append f [] m = refl
map_append f (x ∷ l) m = ap (λ z. f x ∷ z) (map_append f l m)

slot_lowered : (d i : ℕ) (x : W.Word) (slot : List Candidate) → slot_edges i (lower_in d x slot) ≡ map (lower_edge d i x) (slot_edges i slot)
unfolding slot_edges lower_in lower_edge
slot_lowered d i x [] = refl
slot_lowered d i x (candidate y c ∷ slot) = rw (eq-eqb i i refl, slot_lowered d i x slot)

slot_kept : (d i s : ℕ) (x : W.Word) (slot : List Candidate) → ¬ (i ≡ s) → map (lower_edge d s x) (slot_edges i slot) ≡ slot_edges i slot
unfolding slot_edges lower_edge
slot_kept d i s x [] n = refl
slot_kept d i s x (candidate y c ∷ slot) n = rw (ne_eqb i s n, slot_kept d i s x slot n)

later_kept : (d i s : ℕ) (x : W.Word) (u : Utterance) → s < i → map (lower_edge d s x) (edges_from i u) ≡ edges_from i u
unfolding edges_from
later_kept d i s x [] h = refl
later_kept d i s x (slot ∷ u) h =
    map_append (lower_edge d s x) (slot_edges i slot) (edges_from (suc i) u)
    ∙ rw (slot_kept d i s x slot (omega arith), later_kept d (suc i) s x u (omega arith))

edges_lowered : (d i s : ℕ) (x : W.Word) (u : Utterance) → edges_from i (lower_word d s x u) ≡ map (lower_edge d (i + s) x) (edges_from i u)
unfolding edges_from lower_word
edges_lowered d i s x [] = refl
edges_lowered d i zero x (slot ∷ u) =
    let z : i + 0 ≡ i = omega arith in
    rw (z, map_append (lower_edge d i x) (slot_edges i slot) (edges_from (suc i) u), later_kept d (suc i) i x u (omega arith), slot_lowered d i x slot)
edges_lowered d i (suc s) x (slot ∷ u) =
    let z : i + suc s ≡ suc i + s = omega arith in
    rw (
      z,
      map_append (lower_edge d (suc i + s) x) (slot_edges i slot) (edges_from (suc i) u),
      slot_kept d i (suc i + s) x slot (omega arith),
      edges_lowered d (suc i) s x u,
    )

module _ (d s : ℕ) (x : W.Word) where
  -- alike, where the word was heard
  lower_alike : (es : List Edge) → ((f k c : ℕ) → At es f (edge s k x c) → c < not_heard) → Alike es (map (lower_edge d s x) es)
  unfolding lower_edge
  lower_alike [] h = tt
  lower_alike (edge i k y c ∷ es) h = (
    (refl, refl, refl, ((λ o. less (eqb i s) (eqb y.0 x.0) o), (λ o. back (eqb i s) refl (eqb y.0 x.0) refl o))),
    lower_alike es (λ f. h (suc f)),
  )
    where
      less : (a b : Bool) → c < not_heard → pick a (pick b (c - d) c) c < not_heard
      less true true o = omega arith
      less true false o = o
      less false b o = o

      back : (a : Bool) → eqb i s ≡ a → (b : Bool) → eqb y.0 x.0 ≡ b → pick a (pick b (c - d) c) c < not_heard → c < not_heard
      back true p true q o =
          let hi = eqb-true i s p in
          let hy = same_word y x (eqb-true y.0 x.0 q) in
          h 0 k c (rw (hi, hy))
      back true p false q o = o
      back false p b q o = o

  lower_cost : (es : List Edge) (f : ℕ) {i k c : ℕ} {y : W.Word} → At es f (edge i k y c)
      → cost_at (map (lower_edge d s x) es) f ≡ pick (eqb i s) (pick (eqb y.0 x.0) (c - d) c) c
  unfolding cost_at edge_cost lower_edge
  lower_cost es f p = rw (at_map (lower_edge d s x) es f p)

  lower_missing : (es : List Edge) (f : ℕ) → get_elem? es f ≡ none → cost_at (map (lower_edge d s x) es) f ≡ 0
  unfolding cost_at edge_cost
  lower_missing [] f p = refl
  lower_missing (a ∷ es) zero p = absurd (none≢some (sym p))
  lower_missing (a ∷ es) (suc f) p = lower_missing es f p

-- of word x in slot s, which is edge e: no other edge has that slot and word
pub word_lowered : (u : Utterance) → Ascending u → (e s k c d : ℕ) (x : W.Word) → At (edges u) e (edge s k x c) → c < not_heard
    → Lowered d e (edges u) (edges (lower_word d s x u))
unfolding cost_at edge_cost
word_lowered u ascending e s k c d x there heard =
    rw (edges_lowered d 0 s x u) (subst (λ z. Lowered d e (edges u) (map (lower_edge d z x) (edges u))) (sym zero_left) here)
  where
    zero_left : 0 + s ≡ s
    zero_left = omega arith

    kept : (f : ℕ) → ¬ (f ≡ e) → (o : Option Edge) → get_elem? (edges u) f ≡ o
        → cost_at (map (lower_edge d s x) (edges u)) f ≡ edge_cost o
    kept f n none p = lower_missing d s x (edges u) f p
    kept f n (some (edge i l y b)) p = lower_cost d s x (edges u) f p ∙ go (eqb i s) refl (eqb y.0 x.0) refl
      where
        go : (a : Bool) → eqb i s ≡ a → (a' : Bool) → eqb y.0 x.0 ≡ a' → pick a (pick a' (b - d) b) b ≡ b
        go true q true q' =
            let hi = eqb-true i s q in
            let hy = same_word y x (eqb-true y.0 x.0 q') in
            let p' : At (edges u) f (edge s l x b) = rw (hi, hy) at p in
            absurd (n (edges_apart 0 u ascending f e s l k b c x p' there))
        go true q false q' = refl
        go false q a' q' = refl

    here : Lowered d e (edges u) (map (lower_edge d s x) (edges u))
    here = record {
      alike = lower_alike d s x (edges u) (λ f l b p.
          let same : f ≡ e = edges_apart 0 u ascending f e s l k b c x p there in
          let q : At (edges u) e (edge s l x b) = rw same at p in
          let hb : b ≡ c = cc in omega arith);
      own = lower_cost d s x (edges u) e there ∙ rw (eq-eqb s s refl, eq-eqb x.0 x.0 refl, there);
      other = λ f n. kept f n (get_elem? (edges u) f) refl;
    }

pub lower_length : (d s : ℕ) (x : W.Word) (u : Utterance) → length (lower_word d s x u) ≡ length u
unfolding lower_word
lower_length d s x [] = refl
lower_length d zero x (slot ∷ u) = refl
lower_length d (suc s) x (slot ∷ u) = ap suc (lower_length d s x u)
