-- The edges that are left: each edge that was heard stands there at its new number, nothing else does, and what stood earlier stands earlier.
use mathlib.Core.Path.{◌≡◌, refl, ap, ◌∙◌}
use mathlib.Core.Bool.{Bool, true, false}
use mathlib.Core.Option.{some}
use mathlib.Core.List.{List, [], ◌∷◌, ◌++◌}
use Prim.Native.Nat.{ℕ, zero, suc, ◌<◌, compare, Ordering}
use native.Mathlib.Omega.{arith}
use lib.Dec.{ltb}
use borrow.Author.Tests.{ltb-true, lt-ltb}
use Rattle.bits.specs.Bits.{pick}
use Rattle.packing.specs.declared.Word as W
use Rattle.packing.specs.Meaning.{not_heard, Utterance, Candidate, candidate, Edge, edge, slot_edges, edges_from, edges}
use Rattle.derivation.specs.Derivation.{At, Offered}
use Rattle.derivation.specs.Struck.{heard, struck_out}
use Rattle.derivation.proofs.Lists.{none≢some}
use Rattle.derivation.proofs.Comparison.{compare_lt, compare_gt, compare_same, compare_self, compare_below, turn_gt, compare_lawful}
use Rattle.not_heard.specs.NotHeard.{heard_only, number_left}

pub kept : (es : List Edge) (e : ℕ) {i k c : ℕ} {x : W.Word} → Offered es e (edge i k x c) → At (heard_only es) (number_left es e) (edge i k x c)
unfolding heard_only number_left
kept [] e (p, h) = absurd (none≢some p)
kept (edge i' k' y d ∷ es) zero {i} {k} {c} {x} (p, h) =
    let same : edge i' k' y d ≡ edge i k x c = cc in
    let costs : d ≡ c = cc in
    rw (lt-ltb d not_heard (omega arith)) (ap some same)
kept (edge i' k' y d ∷ es) (suc e) {i} {k} {c} {x} (p, h) = go (ltb d not_heard) (kept es e (p, h))
  where
    go : (b : Bool) → At (heard_only es) (number_left es e) (edge i k x c)
        → At (pick b (edge i' k' y d ∷ heard_only es) (heard_only es)) (pick b (suc (number_left es e)) (number_left es e)) (edge i k x c)
    go true q = q
    go false q = q

pub left_from : (es : List Edge) (n : ℕ) {i k c : ℕ} {x : W.Word} → At (heard_only es) n (edge i k x c)
    → (e : ℕ) × Offered es e (edge i k x c) × (n ≡ number_left es e)
unfolding heard_only number_left
left_from [] n p = absurd (none≢some p)
left_from (edge i' k' y d ∷ es) n {i} {k} {c} {x} p = go (ltb d not_heard) refl n p (λ m q. left_from es m q)
  where
    go : (b : Bool) → ltb d not_heard ≡ b → (n : ℕ) → At (pick b (edge i' k' y d ∷ heard_only es) (heard_only es)) n (edge i k x c)
        → ((m : ℕ) → At (heard_only es) m (edge i k x c) → (e : ℕ) × Offered es e (edge i k x c) × (m ≡ number_left es e))
        → (e : ℕ) × Offered (edge i' k' y d ∷ es) e (edge i k x c) × (n ≡ number_left (edge i' k' y d ∷ es) e)
    go true b zero p more =
        let same : edge i' k' y d ≡ edge i k x c = cc in
        let costs : d ≡ c = cc in
        (0, (ap some same, omega (arith, ltb-true d not_heard b)), refl)
    go true b (suc n) p more = let (e, o, q) = more n p in (suc e, o, rw b (ap suc q))
    go false b n p more = let (e, o, q) = more n p in (suc e, o, rw b q)

-- a heard edge that stands earlier stands earlier
earlier : (es : List Edge) (e f : ℕ) {i k c : ℕ} {x : W.Word} → Offered es e (edge i k x c) → e < f → number_left es e < number_left es f
unfolding number_left
earlier [] e f (p, h) l = absurd (none≢some p)
earlier (edge i' k' y d ∷ es) e zero (p, h) l = absurd (omega arith)
earlier (edge i' k' y d ∷ es) zero (suc f) {i} {k} {c} {x} (p, h) l =
    let costs : d ≡ c = cc in
    rw (lt-ltb d not_heard (omega arith)) (omega arith)
earlier (edge i' k' y d ∷ es) (suc e) (suc f) {i} {k} {c} {x} (p, h) l = go (ltb d not_heard) (earlier es e f (p, h) (omega arith))
  where
    go : (b : Bool) → number_left es e < number_left es f
        → pick b (suc (number_left es e)) (number_left es e) < pick b (suc (number_left es f)) (number_left es f)
    go true q = omega arith
    go false q = q

pub same_order : (es : List Edge) (e f : ℕ) {i k c i' k' c' : ℕ} {x x' : W.Word} → Offered es e (edge i k x c) → Offered es f (edge i' k' x' c')
    → compare (number_left es e) (number_left es f) ≡ compare e f
same_order es e f o o' = go (compare e f) refl
  where
    go : (b : Ordering) → compare e f ≡ b → compare (number_left es e) (number_left es f) ≡ b
    go Ordering.lt q = compare_lt _ _ (earlier es e f o (compare_below e f q))
    go Ordering.eq q = let same : e ≡ f = compare_same e f q in rw same (compare_self (number_left es f))
    go Ordering.gt q = compare_gt _ _ (earlier es f e o' (compare_below f e (turn_gt compare_lawful e f q)))

-- the edges of slots that are struck out are those of the slots that are left
slot_left : (i : ℕ) (slot : List Candidate) (es : List Edge) → heard_only (slot_edges i slot ++ es) ≡ slot_edges i (heard slot) ++ heard_only es
unfolding heard_only slot_edges heard
slot_left i [] es = refl
slot_left i (candidate x c ∷ slot) es = go (ltb c not_heard) (slot_left i slot es)
  where
    go : (b : Bool) → heard_only (slot_edges i slot ++ es) ≡ slot_edges i (heard slot) ++ heard_only es
        → pick b (edge i (suc i) x c ∷ heard_only (slot_edges i slot ++ es)) (heard_only (slot_edges i slot ++ es))
        ≡ slot_edges i (pick b (candidate x c ∷ heard slot) (heard slot)) ++ heard_only es
    go true q = ap (λ (l : List Edge). edge i (suc i) x c ∷ l) q
    go false q = q

slots_left : (i : ℕ) (u : Utterance) → heard_only (edges_from i u) ≡ edges_from i (struck_out u)
unfolding heard_only edges_from
slots_left i [] = refl
slots_left i (slot ∷ u) = slot_left i slot (edges_from (suc i) u) ∙ ap (λ (l : List Edge). slot_edges i (heard slot) ++ l) (slots_left (suc i) u)

pub edges_left : (u : Utterance) → heard_only (edges u) ≡ edges (struck_out u)
edges_left u = slots_left 0 u
