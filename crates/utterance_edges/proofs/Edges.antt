-- The edges that stand in an array of slots: stored one slot behind the other, and for the slots of an utterance the
-- utterance's own, since no slot has more than 7. Assumes nothing.
use mathlib.Core.Path.{◌≡◌, refl, ap}
use mathlib.Core.List.{List, [], ◌∷◌, ◌++◌, append_assoc, append-nil}
use Prim.Native.Nat.{ℕ, zero, suc, ◌+◌, ◌-◌, ◌*◌, ◌<◌}
use native.Mathlib.Nat.{min-eq_left}
use native.Mathlib.Numerals.{add-one}
use native.Mathlib.Omega.{arith}
use lib.ListN.{length, get_or}
use Rattle.packing.specs.Meaning.{Utterance, Edge, edge, word, slot_edges, edges_from, edges}
use Rattle.packing.specs.Utterance.{candidates_entries, slots_entries, utterance_entries}
use Rattle.packing.specs.Flat.{slot_numbers, candidates_of, slots_by, edge_numbers, Begins}
use Rattle.packing.specs.Store.{store_all}
use Rattle.packing.specs.Valid.{InRange, Fits, ValidUtterance}
use Rattle.packing.proofs.Entries.{each_right}
use Rattle.packing.proofs.Flat.{Kept, slots_by_lem, length_edges}
use Rattle.packing.proofs.Store.{stored_next}
use Rattle.utterance_edges.specs.Edges.{candidate_edges, at_most7, candidates_at, slots_edges, edges_in}

-- edges stored behind others
numbers_append : (es fs : List Edge) → edge_numbers (es ++ fs) ≡ edge_numbers es ++ edge_numbers fs
unfolding edge_numbers
numbers_append [] fs = refl
numbers_append (edge i k w c ∷ es) fs = ap (λ (l : List ℕ). i ∷ k ∷ w.0 ∷ c ∷ l) (numbers_append es fs)

pub edges_stored : (before : List ℕ) (to : ℕ) {between after : List ℕ} {p : ℕ} (es fs : List Edge) → between ≡ store_all before to (edge_numbers es)
    → p ≡ to + 4 * length es → after ≡ store_all between p (edge_numbers fs) → after ≡ store_all before to (edge_numbers (es ++ fs))
edges_stored before to es fs h e k =
    rw (numbers_append es fs) (stored_next before to (edge_numbers es) (edge_numbers fs) h (omega (arith, length_edges es)) k refl).0

module _ (l : List ℕ) (i : ℕ) where
  pub length_candidate_edges : (n p : ℕ) → length (candidate_edges l i n p) ≡ n
  unfolding slot_edges candidates_of
  length_candidate_edges zero p = refl
  length_candidate_edges (suc n) p = ap suc (length_candidate_edges n (p + 2))

  -- the turns of the loop over a slot's candidates
  module _ (count k p : ℕ) (es : List Edge) where
    pub candidate_edge : k < count → {w c : ℕ} → w ≡ get_or l (p + 2 * k) 0 → c ≡ get_or l (p + 2 * k + 1) 0
        → es ++ candidate_edges l i (count - k) (p + 2 * k) ≡ es ++ (edge i (i + 1) (word w) c ∷ []) ++ candidate_edges l i (count - (k + 1)) (p + 2 * (k + 1))
    unfolding slot_edges candidates_of
    candidate_edge h e f =
        let z : count - k ≡ suc (count - (k + 1)) = omega arith in
        let y : p + 2 * (k + 1) ≡ p + 2 * k + 2 = omega arith in
        rw (z, y, e, f, add-one i, append_assoc)

    pub candidate_edges_end : k ≡ count → es ++ candidate_edges l i (count - k) (p + 2 * k) ≡ es
    unfolding slot_edges candidates_of
    candidate_edges_end e = let z : count - k ≡ 0 = omega arith in rw (z, append-nil)

-- and over the slots
module _ (l : List ℕ) (count i p : ℕ) (es : List Edge) where
  pub slot_edges_more : i < count → {n : ℕ} → n ≡ candidates_at l p
      → es ++ slots_edges l (count - i) i p ≡ es ++ candidate_edges l i n (p + 1) ++ slots_edges l (count - (i + 1)) (i + 1) (p + (1 + 2 * n))
  unfolding edges_from slots_by
  slot_edges_more h {n} e =
      let z : count - i ≡ suc (count - (i + 1)) = omega arith in
      let y : p + (1 + 2 * n) ≡ p + 1 + 2 * n = omega arith in
      rw (z, add-one i, y, e, append_assoc)

  pub slot_edges_end : i ≡ count → es ++ slots_edges l (count - i) i p ≡ es
  unfolding edges_from slots_by
  slot_edges_end e = let z : count - i ≡ 0 = omega arith in rw (z, append-nil)

-- the edges of an utterance's array are the utterance's
kept : (W : ℕ) (u : Utterance) → Fits (slots_entries W u) → Kept at_most7 u
unfolding slots_entries
kept W [] f = tt
kept W (cs ∷ u) (n, f) = (min-eq_left n.1, kept W u (each_right InRange (candidates_entries W 0 cs) (slots_entries W u) f))

pub edges_in_lem : (W : ℕ) (u : Utterance) (array : List ℕ) → ValidUtterance W u → Begins (slot_numbers W u) array → edges_in array (length u) ≡ edges u
unfolding utterance_entries
edges_in_lem W u array (n, f) h = ap edges (slots_by_lem at_most7 W u array (kept W u f) h)
