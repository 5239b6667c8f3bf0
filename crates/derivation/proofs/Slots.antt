-- The edges of an utterance: each is a candidate of the slot that it leaves from, and where words ascend in each slot no two
-- edges from one place carry one word.
use mathlib.Core.Path.{◌≡◌, refl, ap, subst}
use mathlib.Core.Logic.{⊎_elim}
use mathlib.Core.List.Memᴰ
use mathlib.Core.List.{
  List,
  [],
  ◌∷◌,
  ◌++◌,
}
use Prim.Native.Nat.{ℕ, zero, suc, ◌+◌, ◌≤◌, ◌<◌}
use native.Mathlib.Omega.{arith}
use Rattle.packing.specs.declared.Word as W
use Rattle.packing.specs.Meaning.{Utterance, Candidate, candidate, Edge, edge, slot_edges, edges_from, edges}
use Rattle.derivation.specs.Derivation.{At}
use Rattle.derivation.specs.Rank.{◌∈◌}
use Rattle.derivation.proofs.Lists.{none≢some, at_mem, mem_at}
use Rattle.derivation.proofs.Ranges.{All, all_at, Cheap, AscendingFrom, Ascending}

-- an edge of a slot is a candidate of it
slot_out : (i : ℕ) (slot : List Candidate) {from to c : ℕ} {x : W.Word} → edge from to x c ∈ slot_edges i slot
    → (from ≡ i) × (to ≡ suc i) × (candidate x c ∈ slot)
unfolding slot_edges
slot_out i [] m = absurd (Memᴰ.not-nil m)
slot_out i (candidate y d ∷ slot) {from} {to} {c} {x} m =
    ⊎_elim here (λ n. let r = slot_out i slot n in (r.0, r.1, Memᴰ.tail r.2)) (Memᴰ.cases_cons m)
  where
    here : edge from to x c ≡ edge i (suc i) y d → (from ≡ i) × (to ≡ suc i) × (candidate x c ∈ (candidate y d ∷ slot))
    here e =
        let p : candidate x c ≡ candidate y d = cc in
        (cc, cc, Memᴰ.head p)

slot_in : (i : ℕ) (slot : List Candidate) {c : ℕ} {x : W.Word} → candidate x c ∈ slot → edge i (suc i) x c ∈ slot_edges i slot
unfolding slot_edges
slot_in i [] m = absurd (Memᴰ.not-nil m)
slot_in i (candidate y d ∷ slot) {c} {x} m =
    ⊎_elim (λ e. let h : edge i (suc i) x c ≡ edge i (suc i) y d = cc in Memᴰ.head h)
    (λ n. Memᴰ.tail (slot_in i slot n)) (Memᴰ.cases_cons m)

-- an edge of slots that are numbered from i on is a candidate of one of them
pub record InSlot (i : ℕ) (u : Utterance) (from to : ℕ) (x : W.Word) (c : ℕ) : Type 0 where
  pub number : ℕ
  pub slot : List Candidate
  pub start : from ≡ i + number
  pub end : to ≡ suc from
  pub there : At u number slot
  pub offers : candidate x c ∈ slot

pub edges_out : (i : ℕ) (u : Utterance) {from to c : ℕ} {x : W.Word} → edge from to x c ∈ edges_from i u
    → InSlot i u from to x c
unfolding edges_from
edges_out i [] m = absurd (Memᴰ.not-nil m)
edges_out i (slot ∷ u) {from} {to} {c} {x} m =
    ⊎_elim here (λ n. later (edges_out (suc i) u n)) (Memᴰ.append_cases (slot_edges i slot) m)
  where
    here : edge from to x c ∈ slot_edges i slot → InSlot i (slot ∷ u) from to x c
    here n =
        let (p, q, o) = slot_out i slot n in
        record { number = 0; slot = slot; start = omega arith; end = omega arith; there = refl; offers = o }

    later : InSlot (suc i) u from to x c → InSlot i (slot ∷ u) from to x c
    later o =
        let s : from ≡ i + suc o.number = omega (arith, o.start) in
        record { number = suc o.number; slot = o.slot; start = s; end = o.end; there = o.there; offers = o.offers }

pub edges_in_lem : (i : ℕ) (u : Utterance) (n : ℕ) {slot : List Candidate} {c : ℕ} {x : W.Word} → At u n slot
    → candidate x c ∈ slot → edge (i + n) (suc (i + n)) x c ∈ edges_from i u
unfolding edges_from
edges_in_lem i [] n e m = absurd (none≢some e)
edges_in_lem i (first ∷ u) zero {slot} {c} {x} e m =
    let p : first ≡ slot = cc in
    let q : i + 0 ≡ i = omega arith in
    rw q (Memᴰ.append_left _ (slot_in i first (rw p m)))
edges_in_lem i (first ∷ u) (suc n) e m =
    let q : i + suc n ≡ suc i + n = omega arith in
    rw q (Memᴰ.append_right (slot_edges i first) (edges_in_lem (suc i) u n e m))

-- an edge of an utterance is a candidate of the slot that it leaves from
pub edge_slot : (u : Utterance) (e : ℕ) {i k c : ℕ} {x : W.Word} → At (edges u) e (edge i k x c)
    → (slot : List Candidate) × At u i slot × (candidate x c ∈ slot) × (k ≡ suc i)
edge_slot u e {i} p =
    let o = edges_out 0 u (at_mem (edges u) e p) in
    let z : o.number ≡ i = omega (arith, o.start) in
    (o.slot, subst (λ n. At u n o.slot) z o.there, o.offers, o.end)

-- no two edges from one place carry one word
abbrev pub Apart : List Edge → Type 0
Apart es = (e f i k l c d : ℕ) (x : W.Word) → At es e (edge i k x c) → At es f (edge i l x d) → e ≡ f

-- every edge is a slot's
abbrev pub Short : List Edge → Type 0
Short es = (e i k c : ℕ) (x : W.Word) → At es e (edge i k x c) → k ≡ suc i

pub edges_short : (u : Utterance) → Short (edges u)
edges_short u e i k c x p = (edge_slot u e p).3

apart_cons : (a b d : ℕ) (y : W.Word) (es : List Edge) → Apart es → ((k c : ℕ) → edge a k y c ∈ es → ⊥)
    → Apart (edge a b y d ∷ es)
apart_cons a b d y es h n zero zero i k l c c' x p q = refl
apart_cons a b d y es h n zero (suc f) i k l c c' x p q =
    let hi : i ≡ a = cc in let hx : x ≡ y = cc in absurd (n l c' (rw (hi, hx) at (at_mem es f q)))
apart_cons a b d y es h n (suc e) zero i k l c c' x p q =
    let hi : i ≡ a = cc in let hx : x ≡ y = cc in absurd (n k c (rw (hi, hx) at (at_mem es e p)))
apart_cons a b d y es h n (suc e) (suc f) i k l c c' x p q = ap suc (h e f i k l c c' x p q)

pub ascending_least : (b : ℕ) (slot : List Candidate) {c : ℕ} {x : W.Word} → AscendingFrom b slot → candidate x c ∈ slot
    → b ≤ x.0
ascending_least b [] a m = absurd (Memᴰ.not-nil m)
ascending_least b (candidate y d ∷ slot) {c} {x} (h, a) m =
    ⊎_elim (λ e. let p : x ≡ y = cc in rw p h) (λ n. omega (arith, ascending_least (suc y.0) slot a n))
    (Memᴰ.cases_cons m)

slot_apart : (i b : ℕ) (slot : List Candidate) (rest : List Edge) → AscendingFrom b slot
    → ((f k c : ℕ) (x : W.Word) → edge f k x c ∈ rest → i < f) → Apart rest → Apart (slot_edges i slot ++ rest)
unfolding slot_edges
slot_apart i b [] rest a later h = h
slot_apart i b (candidate y d ∷ slot) rest (_, a) later h =
    apart_cons i (suc i) d y (slot_edges i slot ++ rest) (slot_apart i (suc y.0) slot rest a later h)
    (λ k c m. ⊎_elim (λ n. omega (arith, ascending_least (suc y.0) slot a (slot_out i slot n).2))
    (λ n. omega (arith, later i k c y n)) (Memᴰ.append_cases (slot_edges i slot) m))

pub edges_apart : (i : ℕ) (u : Utterance) → Ascending u → Apart (edges_from i u)
unfolding edges_from
edges_apart i [] a = λ e f j k l c d x p q. absurd (none≢some p)
edges_apart i (slot ∷ u) (a, more) =
    slot_apart i 0 slot (edges_from (suc i) u) a (λ f k c x m. let o = edges_out (suc i) u m in omega (arith, o.start))
    (edges_apart (suc i) u more)

abbrev pub CheapEdges : List Edge → Type 0
CheapEdges es = (e i k c : ℕ) (x : W.Word) → At es e (edge i k x c) → c ≤ 65535

pub edges_cheap : (u : Utterance) → All (All Cheap) u → CheapEdges (edges u)
edges_cheap u a e i k c x p =
    let (slot, there, offers, end) = edge_slot u e p in
    let (n, q) = mem_at offers in
    all_at Cheap slot n (all_at (All Cheap) u i a there) q
