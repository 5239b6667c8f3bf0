-- The edges of an array that begins with a graph's are the graph's, and an edge's cost decides whether it is taken. Assumes nothing.
use mathlib.Core.Path.{◌≡◌, refl, sym, ap, ◌∙◌}
use mathlib.Core.Bool.{Bool, true, false}
use mathlib.Core.List.{List, [], ◌∷◌}
use mathlib.Core.Option.{Option, none, some}
use Prim.Native.Nat.{ℕ, zero, suc, ◌+◌, ◌≤◌, ◌<◌}
use native.Mathlib.Nat.{add-zero, zero-add}
use native.Mathlib.Omega.{arith}
use native.Mathlib.Decide.{dec_lt}
use lib.Dec.{eqb, ltb}
use lib.ListN.{length, get_elem?}
use Rattle.bits.specs.Bits.{pick}
use Rattle.packing.specs.declared.Sym.{Sym}
use Rattle.packing.specs.declared.Word as W
use Rattle.packing.specs.Meaning.{not_heard, Edge, edge}
use Rattle.packing.specs.Flat.{Begins, edge_numbers}
use Rattle.packing.proofs.Flat.{edge_at_lem}
use Rattle.derivation.specs.Path.{onward, stuck, edge_step}
use Rattle.derivation.proofs.Lists.{none≢some}
use Rattle.graph_check.specs.Edges.{edge_at, edges_at, edges_of, cost_at}

-- each of them
from_edge : (l : List ℕ) (k n e : ℕ) → e < n → get_elem? (edges_at l k n) e ≡ some (edge_at l (k + e))
unfolding edges_at
from_edge l k zero e h = absurd (omega arith)
from_edge l k (suc n) zero h = rw add-zero
from_edge l k (suc n) (suc e) h = let z : k + suc e ≡ suc k + e = omega arith in rw z (from_edge l (suc k) n e (omega arith))

pub edge_of : (l : List ℕ) (n e : ℕ) → e < n → get_elem? (edges_of l n) e ≡ some (edge_at l e)
edge_of l n e h = rw zero-add at (from_edge l 0 n e h)

pub no_edge_of : (l : List ℕ) (k n e : ℕ) → n ≤ e → get_elem? (edges_at l k n) e ≡ none
unfolding edges_at
no_edge_of l k zero e h = refl
no_edge_of l k (suc n) zero h = absurd (omega arith)
no_edge_of l k (suc n) (suc e) h = no_edge_of l (suc k) n e (omega arith)

-- those of an array that begins with a graph's are the graph's
all_edges : (es : List Edge) (l : List ℕ) (k : ℕ) → ((e : ℕ) → e < length es → get_elem? es e ≡ some (edge_at l (k + e))) → edges_at l k (length es) ≡ es
unfolding edges_at
all_edges [] l k h = refl
all_edges (a ∷ es) l k h =
    let e : some a ≡ some (edge_at l k) = rw add-zero at (h 0 (omega arith)) in
    let f : edge_at l k ≡ a = cc in
    let s : (i : ℕ) → k + suc i ≡ suc k + i = λ i. omega arith in
    rw (f, all_edges es l (suc k) (λ i b. rw s at (h (suc i) (omega arith))))

pub edges_of_lem : (es : List Edge) (array : List ℕ) → Begins (edge_numbers es) array → edges_of array (length es) ≡ es
edges_of_lem es array b = all_edges es array 0 (λ e h. rw zero-add (edge_at_lem es array e b h))

-- an edge that costs nothing is not taken, and one that costs is
module _ (x : W.Word) (place left : ℕ) (heads : List Sym) (w : ℕ) where
  pub not_taken : (o : Option Edge) → cost_at x place o ≡ none → edge_step x place left heads w o ≡ stuck
  unfolding edge_step
  not_taken none e = refl
  not_taken (some (edge i k y c)) e = go (eqb i place) (eqb y.0 x.0) (ltb c not_heard) e
    where
      go : (a b d : Bool) → pick a (pick b (pick d (some c) none) none) none ≡ none
          → pick a (pick b (pick d (onward k left heads (w + c)) stuck) stuck) stuck ≡ stuck
      go false b d e = refl
      go true false d e = refl
      go true true false e = refl
      go true true true e = let z : ◌≡◌ {A = ℕ} 0 1 = cc in absurd (omega arith)

  pub taken : (i k c d : ℕ) (y : W.Word) → cost_at x place (some (edge i k y c)) ≡ some d
      → edge_step x place left heads w (some (edge i k y c)) ≡ onward k left heads (w + d)
  unfolding edge_step
  taken i k c d y e = go (eqb i place) (eqb y.0 x.0) (ltb c not_heard) e
    where
      go : (a b t : Bool) → pick a (pick b (pick t (some c) none) none) none ≡ some d
          → pick a (pick b (pick t (onward k left heads (w + c)) stuck) stuck) stuck ≡ onward k left heads (w + d)
      go false b t e = let z : ◌≡◌ {A = ℕ} 0 1 = cc in absurd (omega arith)
      go true false t e = let z : ◌≡◌ {A = ℕ} 0 1 = cc in absurd (omega arith)
      go true true false e = let z : ◌≡◌ {A = ℕ} 0 1 = cc in absurd (omega arith)
      go true true true e = let z : c ≡ d = cc in rw z

-- one that costs is there
pub edge_there : (x : W.Word) (place : ℕ) (l : List ℕ) (n e : ℕ) {d : ℕ} → cost_at x place (get_elem? (edges_of l n) e) ≡ some d
    → get_elem? (edges_of l n) e ≡ some (edge_at l e)
edge_there x place l n e {d} h = go (dec_lt e n)
  where
    go : Dec (e < n) → get_elem? (edges_of l n) e ≡ some (edge_at l e)
    go (yes k) = edge_of l n e k
    go (no k) = absurd (none≢some (sym (ap (cost_at x place) (no_edge_of l 0 n e (omega arith))) ∙ h))
