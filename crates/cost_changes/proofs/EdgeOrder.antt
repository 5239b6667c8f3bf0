-- The edges of an utterance ascend by slot, then word.
use mathlib.Core.Path.{◌≡◌}
use mathlib.Core.Logic.{◌⊎◌, ⊎_elim}
use mathlib.Core.List.Memᴰ
use mathlib.Core.List.{List, [], ◌∷◌, ◌++◌}
use Prim.Native.Nat.{ℕ, zero, suc, ◌≤◌, ◌<◌, compare, Ordering}
use native.Mathlib.Omega.{arith}
use Rattle.packing.specs.Meaning.{Utterance, Candidate, candidate, Edge, edge, slot_edges, edges_from, edges}
use Rattle.derivation.specs.Derivation.{At}
use Rattle.derivation.specs.Order.{◌▸◌}
use Rattle.derivation.specs.Rank.{◌∈◌}
use Rattle.derivation.proofs.Comparison.{compare_self, compare_lt, ▸-first, ▸-second}
use Rattle.derivation.proofs.Lists.{none≢some, at_mem}
use Rattle.derivation.proofs.Ranges.{AscendingFrom, Ascending}
use Rattle.derivation.proofs.Slots.{edges_out}

abbrev pub edge_order : Edge → Edge → Ordering
edge_order (edge i k x c) (edge j l y d) = compare i j ▸ compare x.0 y.0

-- it is after slot i and word b
abbrev After : ℕ → ℕ → Edge → Type 0
After i b (edge j l y d) = (i ≡ j) × (b ≤ y.0)

slot_after : (i b : ℕ) (slot : List Candidate) → AscendingFrom b slot → (a : Edge) → a ∈ slot_edges i slot → After i b a
unfolding slot_edges
slot_after i b [] asc a m = absurd (Memᴰ.not-nil m)
slot_after i b (candidate x c ∷ slot) (h, asc) (edge j l y d) m =
    ⊎_elim here (λ n. let (p, q) = slot_after i (suc x.0) slot asc (edge j l y d) n in (p, omega arith)) (Memᴰ.cases_cons m)
  where
    here : edge j l y d ≡ edge i (suc i) x c → After i b (edge j l y d)
    here p = let hi : i ≡ j = cc in let hx : y ≡ x = cc in (hi, rw hx h)

-- each edge is before those that follow it
abbrev EdgesAscend : List Edge → Type 0
EdgesAscend [] = Unit {0}
EdgesAscend (a ∷ es) = ((b : Edge) → b ∈ es → edge_order a b ≡ Ordering.lt) × EdgesAscend es

abbrev From : ℕ → Edge → Type 0
From i (edge j l y d) = i < j

slot_ascends : (i b : ℕ) (slot : List Candidate) (rest : List Edge) → AscendingFrom b slot → ((a : Edge) → a ∈ rest → From i a)
    → EdgesAscend rest → EdgesAscend (slot_edges i slot ++ rest)
unfolding slot_edges
slot_ascends i b [] rest asc h r = r
slot_ascends i b (candidate x c ∷ slot) rest (l, asc) h r =
    ((λ a m. before a (Memᴰ.append_cases (slot_edges i slot) m)), slot_ascends i (suc x.0) slot rest asc h r)
  where
    before : (a : Edge) → (a ∈ slot_edges i slot) ⊎ (a ∈ rest) → edge_order (edge i (suc i) x c) a ≡ Ordering.lt
    before (edge j k y d) m =
        ⊎_elim (λ n. let (p, q) = slot_after i (suc x.0) slot asc (edge j k y d) n in
        ▸-second (compare i j) (compare x.0 y.0) (rw p (compare_self j)) (compare_lt x.0 y.0 (omega arith)))
        (λ n. ▸-first (compare i j) (compare x.0 y.0) (compare_lt i j (h (edge j k y d) n))) m

edges_ascend : (i : ℕ) (u : Utterance) → Ascending u → EdgesAscend (edges_from i u)
unfolding edges_from
edges_ascend i [] asc = tt
edges_ascend i (slot ∷ u) (a, asc) = slot_ascends i 0 slot (edges_from (suc i) u) a (λ b m. from b m) (edges_ascend (suc i) u asc)
  where
    from : (b : Edge) → b ∈ edges_from (suc i) u → From i b
    from (edge j l y d) m = omega (arith, (edges_out (suc i) u m).start)

at_before : (es : List Edge) → EdgesAscend es → (e f : ℕ) {a b : Edge} → e < f → At es e a → At es f b → edge_order a b ≡ Ordering.lt
at_before [] r e f h p q = absurd (none≢some p)
at_before (x ∷ es) r e zero h p q = absurd (omega arith)
at_before (x ∷ es) (r, s) zero (suc f) {a} {b} h p q = let z : a ≡ x = cc in rw z (r b (at_mem es f q))
at_before (x ∷ es) (r, s) (suc e) (suc f) h p q = at_before es s e f (omega arith) p q

pub edges_before : (u : Utterance) → Ascending u → (e f : ℕ) {a b : Edge} → e < f → At (edges u) e a → At (edges u) f b
    → edge_order a b ≡ Ordering.lt
edges_before u asc e f h p q = at_before (edges u) (edges_ascend 0 u asc) e f h p q
