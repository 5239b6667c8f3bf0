-- An utterance redrawn as a graph is valid: its edges go one place on, words ascend in each slot, and other slots have other places.
-- Assumes nothing.
use mathlib.Core.Path.{◌≡◌, refl, ap}
use mathlib.Core.Bool.{false, and-false}
use mathlib.Core.List.{List, [], ◌∷◌, ◌++◌}
use Prim.Native.Nat.{ℕ, suc, ◌+◌, ◌-◌, ◌*◌, ◌≤◌, ◌<◌}
use native.Mathlib.Omega.{arith}
use borrow.Author.Tests.{ne_eqb}
use lib.ListN.{length, length-append}
use Rattle.packing.specs.Meaning.{Candidate, candidate, Utterance, Edge, edge, slot_edges, edges_from, edges, redrawn}
use Rattle.packing.specs.declared.Word.{Word}
use Rattle.packing.specs.Alike.{any_like, NoTwo}
use Rattle.packing.specs.Utterance.{candidates_entries, slots_entries, utterance_entries}
use Rattle.packing.specs.Graph.{edges_alike, edges_entries, graph_entries}
use Rattle.packing.specs.Valid.{InRange, Fits, ValidUtterance, ValidGraph}
use Rattle.packing.proofs.Entries.{each_left, each_right}

-- the entries of a slot's edges are in their ranges
module _ (W P : ℕ) where
  slot_fits : (i least : ℕ) (cs : List Candidate) (rest : List Edge) → i ≤ 31 → suc i ≤ P - 1 → Fits (candidates_entries W least cs)
      → Fits (edges_entries W P rest) → Fits (edges_entries W P (slot_edges i cs ++ rest))
  unfolding edges_entries slot_edges candidates_entries
  slot_fits i least [] rest a b h r = r
  slot_fits i least (candidate w c ∷ cs) rest a b (x, (y, h)) r =
      ((omega arith, a), ((omega arith, b), ((omega arith, x.1), (y, slot_fits i (suc w.0) cs rest a b h r))))

  slots_fit : (i : ℕ) (u : Utterance) → P ≤ 25 → i + length u ≤ P - 1 → Fits (slots_entries W u) → Fits (edges_entries W P (edges_from i u))
  unfolding edges_entries edges_from slots_entries
  slots_fit i [] a b h = tt
  slots_fit i (cs ∷ u) a b (n, h) =
      let es = candidates_entries W 0 cs in
      let fs = slots_entries W u in
      slot_fits i 0 cs (edges_from (suc i) u) (omega arith) (omega arith) (each_left InRange es fs h)
      (slots_fit (suc i) u a (omega arith) (each_right InRange es fs h))

-- an edge is not like one that starts at another place, nor like one with another word
other_start : (i k c j l d : ℕ) (x y : Word) → (i ≡ j → ⊥) → edges_alike (edge i k x c) (edge j l y d) ≡ false
other_start i k c j l d x y n = rw (ne_eqb i j n)

other_word : (i k c j l d : ℕ) (x y : Word) → (x.0 ≡ y.0 → ⊥) → edges_alike (edge i k x c) (edge j l y d) ≡ false
other_word i k c j l d x y n = rw (ne_eqb x.0 y.0 n, and-false)

module _ (i k c : ℕ) (x : Word) where
  abbrev Alone : List Edge → Type 0
  Alone es = any_like edges_alike (edge i k x c) es ≡ false

  slot_later : (j : ℕ) (cs : List Candidate) (rest : List Edge) → i < j → Alone rest → Alone (slot_edges j cs ++ rest)
  unfolding any_like slot_edges
  slot_later j [] rest l h = h
  slot_later j (candidate y d ∷ cs) rest l h =
      rw (other_start i k c j (suc j) d x y (λ z. omega arith), slot_later j cs rest l h)

  slots_later : (j : ℕ) (u : Utterance) → i < j → Alone (edges_from j u)
  unfolding any_like edges_from
  slots_later j [] l = refl
  slots_later j (cs ∷ u) l = slot_later j cs (edges_from (suc j) u) l (slots_later (suc j) u (omega arith))

  words_later : (W least : ℕ) (cs : List Candidate) (rest : List Edge) → x.0 < least → Fits (candidates_entries W least cs) → Alone rest
      → Alone (slot_edges i cs ++ rest)
  unfolding any_like slot_edges candidates_entries
  words_later W least [] rest l f h = h
  words_later W least (candidate y d ∷ cs) rest l (a, (b, f)) h =
      rw (other_word i k c i (suc i) d x y (λ z. omega arith), words_later W (suc y.0) cs rest (omega arith) f h)

slot_unlike : (W i least : ℕ) (cs : List Candidate) (u : Utterance) → Fits (candidates_entries W least cs) → NoTwo edges_alike (edges_from (suc i) u)
    → NoTwo edges_alike (slot_edges i cs ++ edges_from (suc i) u)
unfolding slot_edges candidates_entries
slot_unlike W i least [] u f h = h
slot_unlike W i least (candidate w c ∷ cs) u (a, (b, f)) h =
    let later = slots_later i (suc i) c w (suc i) u (omega arith) in
    (words_later i (suc i) c w W (suc w.0) cs (edges_from (suc i) u) (omega arith) f later, slot_unlike W i (suc w.0) cs u f h)

slots_unlike : (W i : ℕ) (u : Utterance) → Fits (slots_entries W u) → NoTwo edges_alike (edges_from i u)
unfolding edges_from slots_entries
slots_unlike W i [] h = tt
slots_unlike W i (cs ∷ u) (n, h) =
    let es = candidates_entries W 0 cs in
    let fs = slots_entries W u in
    slot_unlike W i 0 cs u (each_left InRange es fs h) (slots_unlike W (suc i) u (each_right InRange es fs h))

-- an edge for each word of a slot, so some edge, and at most 7 for each slot
length_slot : (i : ℕ) (cs : List Candidate) → length (slot_edges i cs) ≡ length cs
unfolding slot_edges
length_slot i [] = refl
length_slot i (candidate w c ∷ cs) = ap suc (length_slot i cs)

pub slots_edges : (W i : ℕ) (u : Utterance) → Fits (slots_entries W u) → (length u ≤ length (edges_from i u)) × (length (edges_from i u) ≤ 7 * length u)
unfolding edges_from slots_entries
slots_edges W i [] h = (omega arith, omega arith)
slots_edges W i (cs ∷ u) (n, h) =
    let more = slots_edges W (suc i) u (each_right InRange (candidates_entries W 0 cs) (slots_entries W u) h) in
    let here = length_slot i cs in
    simp length-append (omega arith, omega arith)

pub redrawn_valid : (W : ℕ) (u : Utterance) → ValidUtterance W u → length (edges u) ≤ 96 → ValidGraph W (redrawn u)
unfolding utterance_entries graph_entries
redrawn_valid W u ((l, m), h) few = (
  ((omega arith, omega arith), ((omega (arith, slots_edges W 0 u h), few), slots_fit W (suc (length u)) 0 u (omega arith) (omega arith) h)),
  slots_unlike W 0 u h,
)
