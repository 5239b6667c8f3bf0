-- The test for 59 over arrays of edges. An edge's start says its slot, so edges that are one by one alike but for their costs are those of
-- utterances that are: where one slot ends before the other, the starts differ.
use mathlib.Core.Path.{◌≡◌, refl, sym, ◌∙◌}
use mathlib.Core.Bool.{Bool, true, false, ◌&&◌, and-false}
use mathlib.Core.List.Memᴰ
use mathlib.Core.List.{List, [], ◌∷◌, ◌++◌}
use Prim.Native.Nat.{ℕ, zero, suc, ◌+◌, ◌*◌, ◌≤◌, ◌<◌}
use native.Mathlib.Omega.{arith}
use native.Mathlib.Decide.{ℕ_discrete}
use lib.Dec.{eqb}
use Rattle.std.specs.Prelude.{MatchBool}
use Rattle.std.specs.List.{AllWithin, HoldsAt, range_with_len}
use Rattle.std.proofs.lemmas.List.FromFn.{length-range_with_len, get_or-range_with_len}
use lib.ListN.{length, get_or}
use borrow.Author.Tests.{eq-eqb, ne_eqb}
use Rattle.packing.specs.declared.Word as W
use Rattle.packing.specs.Meaning.{Utterance, Candidate, candidate, Edge, edge, slot_edges, edges_from, edges, slots}
use Rattle.packing.specs.Flat.{Begins, edge_numbers}
use Rattle.packing.proofs.Flat.{begins_at, length_edges}
use Rattle.derivation.specs.Rank.{◌∈◌}
use Rattle.derivation.proofs.Slots.{edges_out}
use Rattle.cost_changes.specs.Ranges.{cost_rises, slot_rises, rises}
use Rattle.cost_changes.proofs.Utterances.{risen_length}
use Rattle.cost_changes.proofs.Valid.{risen_edges}
use Rattle.heard_reader.specs.Answer.{heard_size}
use Rattle.heard_reader.specs.declared.HeardSize.{HeardSize}
use Rattle.rising_costs.specs.Model.{edge_rises, edges_rise, both_rise}

-- the numbers below n in their order
place : (n k : ℕ) → k < n → get_or (range_with_len 0 n) k 0 ≡ k
place n k l = omega (arith, get_or-range_with_len 0 n k 0 l)

-- edges that all rise, and one among them that does not
module _ (low high : List ℕ) where
  all_rise : (e n : ℕ) → ((k : ℕ) → e ≤ k → k < e + n → edge_rises low high k ≡ true) → edges_rise low high e n ≡ true
  unfolding edges_rise
  all_rise e zero h = refl
  all_rise e (suc n) h = rw (h e (omega arith) (omega arith)) (all_rise (suc e) n (λ k a b. h k (omega arith) (omega arith)))

  one_falls : (e n k : ℕ) → e ≤ k → k < e + n → edge_rises low high k ≡ false → edges_rise low high e n ≡ false
  unfolding edges_rise
  one_falls e zero k a b h = absurd (omega arith)
  one_falls e (suc n) k a b h =
      here_or_later (ℕ_discrete e k) h (λ q. one_falls (suc e) n k (omega arith) (omega arith) h)
    where
      here_or_later : Dec (e ≡ k) → edge_rises low high k ≡ false → ((e ≡ k → ⊥) → edges_rise low high (suc e) n ≡ false)
          → (edge_rises low high e && edges_rise low high (suc e) n) ≡ false
      here_or_later (yes p) h later = rw (p, h)
      here_or_later (no q) h later = rw (later q) (and-false (edge_rises low high e))

  -- what the test of each of the first n edges says
  pub rise_told : (n : ℕ) {r : Bool}
      → MatchBool r (AllWithin (λ e. edge_rises low high e ≡ true) (range_with_len 0 n) 0 (length (range_with_len 0 n)))
      ((k : ℕ) × (k < length (range_with_len 0 n)) × HoldsAt (λ e. edge_rises low high e ≡ false) (range_with_len 0 n) k)
      → r ≡ edges_rise low high 0 n
  rise_told n {r = true} h =
      sym (all_rise 0 n (λ k a b. rw (place n k (omega arith)) at (h k 0 (omega arith) (rw length-range_with_len (omega arith)))))
  rise_told n {r = false} (k, b, h) =
      let in' : k < n = rw length-range_with_len at b in
      sym (one_falls 0 n k (omega arith) (omega arith) (rw (place n k in') at (h 0)))

-- the same test over lists of edges
unfoldable list_rises : List Edge → List Edge → Bool
list_rises [] [] = true
list_rises [] (b ∷ fs) = false
list_rises (a ∷ es) [] = false
list_rises (edge i k x c ∷ es) (edge j l y d ∷ fs) = (eqb i j && eqb x.0 y.0 && cost_rises c d) && list_rises es fs

-- an array has the numbers of these edges from edge e on
abbrev Stand : List ℕ → ℕ → List Edge → Type 0
Stand array e es = (i : ℕ) → i < 4 * length es → get_or array (4 * e + i) 0 ≡ get_or (edge_numbers es) i 0

stand_next : (array : List ℕ) (e : ℕ) (a : Edge) (es : List Edge) → Stand array e (a ∷ es) → Stand array (suc e) es
unfolding edge_numbers
stand_next array e (edge i k x c) es h n l =
    let z : 4 * suc e + n ≡ 4 * e + suc (suc (suc (suc n))) = omega arith in
    rw z (h (suc (suc (suc (suc n)))) (omega arith))

array_rises : (low high : List ℕ) (e : ℕ) (es fs : List Edge) → length es ≡ length fs → Stand low e es → Stand high e fs
    → edges_rise low high e (length es) ≡ list_rises es fs
unfolding edges_rise list_rises edge_numbers
array_rises low high e [] [] n a b = refl
array_rises low high e [] (g ∷ fs) n a b = absurd (omega arith)
array_rises low high e (f ∷ es) [] n a b = absurd (omega arith)
array_rises low high e (edge i k x c ∷ es) (edge j l y d ∷ fs) n a b =
    let z : 4 * e + 0 ≡ 4 * e = omega arith in
    let a₀ = rw z at (a 0 (omega arith)) in
    let b₀ = rw z at (b 0 (omega arith)) in
    rw (
      a₀,
      b₀,
      a 2 (omega arith),
      b 2 (omega arith),
      a 3 (omega arith),
      b 3 (omega arith),
      array_rises low high (suc e) es fs (omega arith) (stand_next low e (edge i k x c) es a) (stand_next high e (edge j l y d) fs b),
    )

begins_stand : (es : List Edge) (array : List ℕ) → Begins (edge_numbers es) array → Stand array 0 es
begins_stand es array b i l =
    let z : 4 * 0 + i ≡ i = omega arith in
    rw z (begins_at (edge_numbers es) array i b (omega (arith, length_edges es)))

-- edges that all start later than one
abbrev Later : ℕ → List Edge → Type 0
Later i es = (f k c : ℕ) (x : W.Word) → edge f k x c ∈ es → i < f

later_low : (i k : ℕ) (x : W.Word) (c : ℕ) (es fs : List Edge) → Later i fs → list_rises (edge i k x c ∷ es) fs ≡ false
unfolding list_rises
later_low i k x c es [] h = refl
later_low i k x c es (edge f l y d ∷ fs) h = rw (ne_eqb i f (λ e. omega (arith, h f l d y (Memᴰ.head refl))))

later_high : (i k : ℕ) (x : W.Word) (c : ℕ) (es fs : List Edge) → Later i es → list_rises es (edge i k x c ∷ fs) ≡ false
unfolding list_rises
later_high i k x c [] fs h = refl
later_high i k x c (edge f l y d ∷ es) fs h = rw (ne_eqb f i (λ e. omega (arith, h f l d y (Memᴰ.head refl))))

slots_later : (i : ℕ) (u : Utterance) → Later i (edges_from (suc i) u)
slots_later i u f k c x m = let o = edges_out (suc i) u m in omega (arith, o.start)

and_assoc : (a b c : Bool) → (a && (b && c)) ≡ ((a && b) && c)
and_assoc true b c = refl
and_assoc false b c = refl

slot_rises_lem : (i : ℕ) (l m : List Candidate) (u v : Utterance)
    → list_rises (slot_edges i l ++ edges_from (suc i) u) (slot_edges i m ++ edges_from (suc i) v)
    ≡ (slot_rises l m && list_rises (edges_from (suc i) u) (edges_from (suc i) v))
unfolding slot_edges list_rises slot_rises
slot_rises_lem i [] [] u v = refl
slot_rises_lem i [] (candidate y d ∷ m) u v = later_high i (suc i) y d (edges_from (suc i) u) (slot_edges i m ++ edges_from (suc i) v) (slots_later i u)
slot_rises_lem i (candidate x c ∷ l) [] u v = later_low i (suc i) x c (slot_edges i l ++ edges_from (suc i) u) (edges_from (suc i) v) (slots_later i v)
slot_rises_lem i (candidate x c ∷ l) (candidate y d ∷ m) u v =
    rw (eq-eqb i i refl, slot_rises_lem i l m u v) (and_assoc (eqb x.0 y.0 && cost_rises c d) (slot_rises l m) _)

edges_rises : (i : ℕ) (u v : Utterance) → length u ≡ length v → list_rises (edges_from i u) (edges_from i v) ≡ rises u v
unfolding edges_from list_rises rises
edges_rises i [] [] n = refl
edges_rises i [] (m ∷ v) n = absurd (omega arith)
edges_rises i (l ∷ u) [] n = absurd (omega arith)
edges_rises i (l ∷ u) (m ∷ v) n = slot_rises_lem i l m u v ∙ rw (edges_rises (suc i) u v (omega arith))

-- what does not rise
falls : (u v : Utterance) → (rises u v ≡ true → ⊥) → rises u v ≡ false
falls u v n = go (rises u v) refl
  where
    go : (b : Bool) → rises u v ≡ b → rises u v ≡ false
    go true e = absurd (n e)
    go false e = e

pub both_rise_lem : (u v : Utterance) (low high : List ℕ) → Begins (edge_numbers (edges u)) low → Begins (edge_numbers (edges v)) high
    → both_rise low (heard_size (slots u)) high (heard_size (slots v)) ≡ rises u v
both_rise_lem u v low high a b = go (ℕ_discrete (length u) (length v)) (ℕ_discrete (length (edges u)) (length (edges v)))
  where
    go : Dec (length u ≡ length v) → Dec (length (edges u) ≡ length (edges v))
        → both_rise low (heard_size (slots u)) high (heard_size (slots v)) ≡ rises u v
    go (no n) q = rw (ne_eqb (length u) (length v) n) (sym (falls u v (λ e. n (risen_length u v e))))
    go (yes p) (no n) = rw (eq-eqb (length u) (length v) p, ne_eqb (length (edges u)) (length (edges v)) n) (sym (falls u v (λ e. n (risen_edges u v e))))
    go (yes p) (yes q) =
        rw (eq-eqb (length u) (length v) p, eq-eqb (length (edges u)) (length (edges v)) q)
        (array_rises low high 0 (edges u) (edges v) q (begins_stand (edges u) low a) (begins_stand (edges v) high b) ∙ edges_rises 0 u v p)
