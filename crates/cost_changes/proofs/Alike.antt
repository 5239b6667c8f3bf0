-- Edges alike but for their costs have the same derivations.
use mathlib.Core.Path.{◌≡◌, refl, sym, ◌∙◌}
use mathlib.Core.Logic.{◌↔◌}
use mathlib.Core.List.{List, [], ◌∷◌}
use Prim.Native.Nat.{ℕ, zero, suc, ◌≤◌, ◌<◌}
use Rattle.packing.specs.declared.Sym.{Sym}
use Rattle.packing.specs.declared.Word as W
use Rattle.packing.specs.Meaning.{not_heard, Grammar, Edge, edge}
use Rattle.derivation.specs.Derivation.{At, Tree, Derives, by_word_rule, by_pair_rule}
use Rattle.derivation.proofs.Lists.{none≢some}
use Rattle.cost_changes.specs.Costs.{cost_at}

-- one edge but for its cost: from, to, word, and whether the word was heard
abbrev pub AlikeEdge : Edge → Edge → Type 0
AlikeEdge (edge i k x c) (edge j l y d) = (i ≡ j) × (k ≡ l) × (x ≡ y) × ((c < not_heard) ↔ (d < not_heard))

-- as many edges, and at each number one edge but for its cost
abbrev pub Alike : List Edge → List Edge → Type 0
Alike [] [] = Unit {0}
Alike [] (b ∷ fs) = ⊥
Alike (a ∷ es) [] = ⊥
Alike (a ∷ es) (b ∷ fs) = AlikeEdge a b × Alike es fs

-- no edge costs more in es than in fs
abbrev pub NoDearer : List Edge → List Edge → Type 0
NoDearer es fs = (e : ℕ) → cost_at es e ≤ cost_at fs e

pub alike_self : (es : List Edge) → Alike es es
alike_self [] = tt
alike_self (edge i k x c ∷ es) = ((refl, refl, refl, ((λ h. h), (λ h. h))), alike_self es)

pub alike_turn : (es fs : List Edge) → Alike es fs → Alike fs es
alike_turn [] [] a = tt
alike_turn [] (b ∷ fs) a = absurd a
alike_turn (a ∷ es) [] p = absurd p
alike_turn (edge i k x c ∷ es) (edge j l y d ∷ fs) ((p, q, r, h), a) =
    ((sym p, sym q, sym r, (h.1, h.0)), alike_turn es fs a)

pub alike_trans : (es fs hs : List Edge) → Alike es fs → Alike fs hs → Alike es hs
alike_trans [] [] hs a b = b
alike_trans [] (b ∷ fs) hs a c = absurd a
alike_trans (a ∷ es) [] hs p q = absurd p
alike_trans (a ∷ es) (b ∷ fs) [] p q = absurd q
alike_trans (edge i k x c ∷ es) (edge j l y d ∷ fs) (edge j' l' y' d' ∷ hs) ((p, q, r, h), a) ((p', q', r', h'), b) =
    ((p ∙ p', q ∙ q', r ∙ r', ((λ o. h'.0 (h.0 o)), (λ o. h.1 (h'.1 o)))), alike_trans es fs hs a b)

-- an edge is in both, at its number, and was heard in both or neither
alike_at : (es fs : List Edge) (e : ℕ) {i k c : ℕ} {x : W.Word} → Alike es fs → At es e (edge i k x c)
    → (d : ℕ) × At fs e (edge i k x d) × (c < not_heard → d < not_heard)
alike_at [] fs e a p = absurd (none≢some p)
alike_at (a ∷ es) [] e p q = absurd p
alike_at (edge i k x c ∷ es) (edge j l y d ∷ fs) zero {i = i'} {k = k'} {c = c'} {x = x'} ((p, q, r, o), a) h =
    let hi : i' ≡ i = cc in
    let hk : k' ≡ k = cc in
    let hx : x' ≡ x = cc in
    let hc : c' ≡ c = cc in
    (d, rw (hi, hk, hx, p, q, r), λ b. o.0 (rw hc at b))
alike_at (b ∷ es) (b' ∷ fs) (suc e) (o, a) h = alike_at es fs e a h

pub alike_derives : (g : Grammar) (es fs : List Edge) → Alike es fs → {A : Sym} {i k : ℕ} {t : Tree} → Derives g es A i k t
    → Derives g fs A i k t
alike_derives g es fs a (by_word_rule {e = e} p q) = let (d, q', o) = alike_at es fs e a q.0 in by_word_rule p (q', o q.1)
alike_derives g es fs a (by_pair_rule p h₁ h₂ d₁ d₂) =
    by_pair_rule p h₁ h₂ (alike_derives g es fs a d₁) (alike_derives g es fs a d₂)
