-- Choices of costs for candidates are choices of costs for edges, and back: edges that rise from an utterance's are an utterance's.
use mathlib.Core.Path.{◌≡◌, refl, sym, ap, subst}
use mathlib.Core.Logic.{◌↔◌}
use mathlib.Core.Bool.{Bool, true, false, false≢true, ◌&&◌}
use mathlib.Core.List.{List, [], ◌∷◌, ◌++◌}
use Prim.Native.Nat.{ℕ, zero, suc, ◌≤◌, ◌<◌}
use native.Mathlib.Nat.{le_refl}
use native.Mathlib.Omega.{arith}
use lib.Dec.{eqb, leb, ltb}
use lib.ListN.{length}
use borrow.Author.Tests.{leb-true, ltb-true, ltb-false, eqb-true, le-leb, lt-ltb, eq-eqb}
use Rattle.bits.specs.Bits.{pick}
use Rattle.packing.specs.declared.Word as W
use Rattle.packing.specs.Meaning.{not_heard, Utterance, Candidate, candidate, Edge, edge, slot_edges, edges_from, edges}
use Rattle.derivation.specs.Derivation.{edge_cost}
use Rattle.derivation.proofs.Trees.{same_word}
use Rattle.cost_changes.specs.Costs.{cost_at}
use Rattle.cost_changes.specs.Ranges.{cost_rises, slot_rises, rises, Choice}
use Rattle.cost_changes.proofs.Alike.{Alike, NoDearer, alike_turn, alike_trans}

-- what the tests say, as relations: of a cost, of a slot, of an utterance
abbrev RiseCost : ℕ → ℕ → Type 0
RiseCost c d = (c ≤ d) × ((c < not_heard) ↔ (d < not_heard))

abbrev pub RiseSlot : List Candidate → List Candidate → Type 0
RiseSlot [] [] = Unit {0}
RiseSlot [] (b ∷ m) = ⊥
RiseSlot (a ∷ l) [] = ⊥
RiseSlot (candidate x c ∷ l) (candidate y d ∷ m) = (x ≡ y) × RiseCost c d × RiseSlot l m

abbrev pub Rise : Utterance → Utterance → Type 0
Rise [] [] = Unit {0}
Rise [] (m ∷ v) = ⊥
Rise (l ∷ u) [] = ⊥
Rise (l ∷ u) (m ∷ v) = RiseSlot l m × Rise u v

and_out : (a b : Bool) → (a && b) ≡ true → (a ≡ true) × (b ≡ true)
and_out true b e = (refl, e)
and_out false b e = absurd (false≢true e)

cost_out : (c d : ℕ) → cost_rises c d ≡ true → RiseCost c d
cost_out c d e =
    let (a, b) = and_out (leb c d) (pick (ltb c not_heard) (ltb d not_heard) true) e in
    let least = leb-true c d a in
    (least, (heard (ltb c not_heard) refl b, λ h. omega arith))
  where
    heard : (t : Bool) → ltb c not_heard ≡ t → pick t (ltb d not_heard) true ≡ true → c < not_heard → d < not_heard
    heard true p b h = ltb-true d not_heard b
    heard false p b h = absurd (omega (arith, ltb-false c not_heard p))

cost_in : (c d : ℕ) → RiseCost c d → cost_rises c d ≡ true
cost_in c d (l, o) = rw (le-leb c d l) (go (ltb c not_heard) refl)
  where
    go : (t : Bool) → ltb c not_heard ≡ t → pick t (ltb d not_heard) true ≡ true
    go true p = lt-ltb d not_heard (o.0 (ltb-true c not_heard p))
    go false p = refl

slot_out : (l m : List Candidate) → slot_rises l m ≡ true → RiseSlot l m
unfolding slot_rises
slot_out [] [] e = tt
slot_out [] (b ∷ m) e = absurd (false≢true e)
slot_out (a ∷ l) [] e = absurd (false≢true e)
slot_out (candidate x c ∷ l) (candidate y d ∷ m) e =
    let (f, h) = and_out (eqb x.0 y.0 && cost_rises c d) (slot_rises l m) e in
    let (a, b) = and_out (eqb x.0 y.0) (cost_rises c d) f in
    (same_word x y (eqb-true x.0 y.0 a), cost_out c d b, slot_out l m h)

slot_in : (l m : List Candidate) → RiseSlot l m → slot_rises l m ≡ true
unfolding slot_rises
slot_in [] [] r = refl
slot_in [] (b ∷ m) r = absurd r
slot_in (a ∷ l) [] r = absurd r
slot_in (candidate x c ∷ l) (candidate y d ∷ m) (p, q, r) =
    rw (eq-eqb x.0 y.0 (ap (λ (z : W.Word). z.0) p), cost_in c d q) (slot_in l m r)

pub rises_out : (u v : Utterance) → rises u v ≡ true → Rise u v
unfolding rises
rises_out [] [] e = tt
rises_out [] (m ∷ v) e = absurd (false≢true e)
rises_out (l ∷ u) [] e = absurd (false≢true e)
rises_out (l ∷ u) (m ∷ v) e = let (a, b) = and_out (slot_rises l m) (rises u v) e in (slot_out l m a, rises_out u v b)

rises_in : (u v : Utterance) → Rise u v → rises u v ≡ true
unfolding rises
rises_in [] [] r = refl
rises_in [] (m ∷ v) r = absurd r
rises_in (l ∷ u) [] r = absurd r
rises_in (l ∷ u) (m ∷ v) (a, r) = rw (slot_in l m a) (rises_in u v r)

pub rise_length : (u v : Utterance) → Rise u v → length u ≡ length v
rise_length [] [] r = refl
rise_length [] (m ∷ v) r = absurd r
rise_length (l ∷ u) [] r = absurd r
rise_length (l ∷ u) (m ∷ v) (a, r) = ap suc (rise_length u v r)

-- every cost rises to itself
slot_self : (l : List Candidate) → RiseSlot l l
slot_self [] = tt
slot_self (candidate x c ∷ l) = (refl, (le_refl c, ((λ h. h), (λ h. h))), slot_self l)

rise_self : (u : Utterance) → Rise u u
rise_self [] = tt
rise_self (l ∷ u) = (slot_self l, rise_self u)

-- the same of edges, one by one
abbrev pub RiseEdges : List Edge → List Edge → Type 0
RiseEdges [] [] = Unit {0}
RiseEdges [] (b ∷ fs) = ⊥
RiseEdges (a ∷ es) [] = ⊥
RiseEdges (edge i k x c ∷ es) (edge j l y d ∷ fs) = ((i ≡ j) × (k ≡ l) × (x ≡ y) × RiseCost c d) × RiseEdges es fs

rise_alike : (es fs : List Edge) → RiseEdges es fs → Alike es fs
rise_alike [] [] r = tt
rise_alike [] (b ∷ fs) r = absurd r
rise_alike (a ∷ es) [] r = absurd r
rise_alike (edge i k x c ∷ es) (edge j l y d ∷ fs) ((p, q, h, o), r) = ((p, q, h, o.1), rise_alike es fs r)

rise_dearer : (es fs : List Edge) → RiseEdges es fs → NoDearer es fs
unfolding cost_at edge_cost
rise_dearer [] [] r e = le_refl 0
rise_dearer [] (b ∷ fs) r e = absurd r
rise_dearer (a ∷ es) [] r e = absurd r
rise_dearer (edge i k x c ∷ es) (edge j l y d ∷ fs) ((p, q, h, o), r) zero = o.0
rise_dearer (edge i k x c ∷ es) (edge j l y d ∷ fs) (a, r) (suc e) = rise_dearer es fs r e

dearer_rise : (es fs : List Edge) → Alike es fs → NoDearer es fs → RiseEdges es fs
unfolding cost_at edge_cost
dearer_rise [] [] a h = tt
dearer_rise [] (b ∷ fs) a h = absurd a
dearer_rise (a ∷ es) [] p h = absurd p
dearer_rise (edge i k x c ∷ es) (edge j l y d ∷ fs) ((p, q, r, o), a) h =
    ((p, q, r, (h 0, o)), dearer_rise es fs a (λ e. h (suc e)))

-- from slots to edges
slot_edges_lem : (i : ℕ) (l m : List Candidate) (es fs : List Edge) → RiseSlot l m → RiseEdges es fs
    → RiseEdges (slot_edges i l ++ es) (slot_edges i m ++ fs)
unfolding slot_edges
slot_edges_lem i [] [] es fs r q = q
slot_edges_lem i [] (b ∷ m) es fs r q = absurd r
slot_edges_lem i (a ∷ l) [] es fs r q = absurd r
slot_edges_lem i (candidate x c ∷ l) (candidate y d ∷ m) es fs (p, o, r) q = ((refl, refl, p, o), slot_edges_lem i l m es fs r q)

rise_edges : (i : ℕ) (u v : Utterance) → Rise u v → RiseEdges (edges_from i u) (edges_from i v)
unfolding edges_from
rise_edges i [] [] r = tt
rise_edges i [] (m ∷ v) r = absurd r
rise_edges i (l ∷ u) [] r = absurd r
rise_edges i (l ∷ u) (m ∷ v) (a, r) = slot_edges_lem i l m _ _ a (rise_edges (suc i) u v r)

-- and back
record Recast (i : ℕ) (l : List Candidate) (es fs : List Edge) : Type 0 where
  slot : List Candidate
  rest : List Edge
  cut : slot_edges i slot ++ rest ≡ fs
  rises : RiseSlot l slot
  others : RiseEdges es rest

same_edges : {i j k l d : ℕ} {y : W.Word} {es fs : List Edge} → i ≡ j → k ≡ l → es ≡ fs
    → edge i k y d ∷ es ≡ edge j l y d ∷ fs
same_edges p q r = rw (p, q, r)

recast : (i : ℕ) (l : List Candidate) (es fs : List Edge) → RiseEdges (slot_edges i l ++ es) fs → Recast i l es fs
unfolding slot_edges
recast i [] es fs r = record { slot = []; rest = fs; cut = refl; rises = tt; others = r }
recast i (candidate x c ∷ l) es [] r = absurd r
recast i (candidate x c ∷ l) es (edge j k y d ∷ fs) ((p, q, h, o), r) =
    let z = recast i l es fs r in
    record {
      slot = candidate y d ∷ z.slot;
      rest = z.rest;
      cut = same_edges p q z.cut;
      rises = (h, o, z.rises);
      others = z.others;
    }

recost : (i : ℕ) (u : Utterance) (fs : List Edge) → RiseEdges (edges_from i u) fs
    → (v : Utterance) × (edges_from i v ≡ fs) × Rise u v
unfolding edges_from
recost i [] [] r = ([], refl, tt)
recost i [] (b ∷ fs) r = absurd r
recost i (l ∷ u) fs r =
    let z = recast i l (edges_from (suc i) u) fs r in
    let (v, e, h) = recost (suc i) u z.rest z.others in
    (z.slot ∷ v, rw e z.cut, (z.rises, h))

back_slot : (i : ℕ) (l a b : List Candidate) (es fs : List Edge) → RiseSlot l a → RiseSlot l b
    → RiseEdges (slot_edges i a ++ es) (slot_edges i b ++ fs) → RiseSlot a b × RiseEdges es fs
unfolding slot_edges
back_slot i [] [] [] es fs p q r = (tt, r)
back_slot i [] [] (y ∷ b) es fs p q r = absurd q
back_slot i [] (x ∷ a) b es fs p q r = absurd p
back_slot i (z ∷ l) [] b es fs p q r = absurd p
back_slot i (z ∷ l) (x ∷ a) [] es fs p q r = absurd q
back_slot i (candidate z w ∷ l) (candidate x c ∷ a) (candidate y d ∷ b) es fs (_, _, p') (_, _, q') ((h, h', e, o), r) =
    let (s, t) = back_slot i l a b es fs p' q' r in ((e, o, s), t)

rise_back : (i : ℕ) (u v w : Utterance) → Rise u v → Rise u w → RiseEdges (edges_from i v) (edges_from i w) → Rise v w
unfolding edges_from
rise_back i [] [] [] p q r = tt
rise_back i [] [] (m ∷ w) p q r = absurd q
rise_back i [] (l ∷ v) w p q r = absurd p
rise_back i (k ∷ u) [] w p q r = absurd p
rise_back i (k ∷ u) (l ∷ v) [] p q r = absurd q
rise_back i (k ∷ u) (l ∷ v) (m ∷ w) (p, p') (q, q') r =
    let (s, t) = back_slot i k l m _ _ p q r in (s, rise_back (suc i) u v w p' q' t)

-- of what rises, the edges are alike and none falls
pub risen_alike : (u v : Utterance) → rises u v ≡ true → Alike (edges u) (edges v)
risen_alike u v e = rise_alike (edges u) (edges v) (rise_edges 0 u v (rises_out u v e))

pub risen_dearer : (u v : Utterance) → rises u v ≡ true → NoDearer (edges u) (edges v)
risen_dearer u v e = rise_dearer (edges u) (edges v) (rise_edges 0 u v (rises_out u v e))

pub risen_length : (u v : Utterance) → rises u v ≡ true → length u ≡ length v
risen_length u v e = rise_length u v (rises_out u v e)

module _ (low high : Utterance) (risen : rises low high ≡ true) where
  pub low_choice : Choice low high low
  low_choice = record { above = rises_in low low (rise_self low); below = risen }

  pub high_choice : Choice low high high
  high_choice = record { above = risen; below = rises_in high high (rise_self high) }

  -- edges between low and high are those of a choice
  pub edges_choice : (m : List Edge) → Alike (edges low) m → NoDearer (edges low) m → NoDearer m (edges high)
      → (c : Utterance) × Choice low high c × (edges c ≡ m)
  edges_choice m alike above below =
      let (c, e, p) = recost 0 low m (dearer_rise (edges low) m alike above) in
      let a = alike_trans m (edges low) (edges high) (alike_turn (edges low) m alike) (risen_alike low high risen) in
      let q : RiseEdges (edges c) (edges high) = subst (λ es. RiseEdges es (edges high)) (sym e) (dearer_rise m (edges high) a below) in
      let r = rise_back 0 low c high p (rises_out low high risen) q in
      (c, record { above = rises_in low c p; below = rises_in c high r }, e)
