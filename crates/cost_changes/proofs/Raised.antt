-- Edges of which some have the costs of other edges: what is raised costs as there, all else as before. So of the edges that a tree uses,
-- raised from low to high, there is a choice with the tree's own words high and all others low.
use mathlib.Core.Path.{◌≡◌, refl, ◌∙◌}
use mathlib.Core.Logic.{⊎_elim}
use mathlib.Core.List.Memᴰ
use mathlib.Core.List.{List, [], ◌∷◌}
use mathlib.Core.Bool.{true}
use Prim.Native.Nat.{ℕ, zero, suc}
use native.Mathlib.Omega.{arith}
use Rattle.packing.specs.Meaning.{Utterance, Edge, edge, edges}
use Rattle.derivation.specs.Derivation.{Tree, edge_cost}
use Rattle.derivation.specs.Rank.{◌∈◌}
use Rattle.cost_changes.specs.Costs.{cost_at, edges_of}
use Rattle.cost_changes.specs.Ranges.{rises, OwnHigh}
use Rattle.cost_changes.specs.Passes.{raise, raised}
use Rattle.cost_changes.proofs.Sums.{in_or_not}
use Rattle.cost_changes.proofs.Alike.{Alike, alike_self, alike_turn, alike_trans}
use Rattle.cost_changes.proofs.Utterances.{risen_alike, risen_dearer, edges_choice}

raise_alike : (e : ℕ) (es fs : List Edge) → Alike es fs → Alike es (raise e es fs)
unfolding raise
raise_alike e [] fs a = tt
raise_alike e (a ∷ es) [] p = absurd p
raise_alike zero (edge i k x c ∷ es) (edge j l y d ∷ fs) ((p, q, r, o), a) = ((refl, refl, refl, o), alike_self es)
raise_alike (suc e) (edge i k x c ∷ es) (b ∷ fs) (p, a) = ((refl, refl, refl, ((λ h. h), (λ h. h))), raise_alike e es fs a)

raise_still : (e : ℕ) (es fs : List Edge) → Alike es fs → Alike (raise e es fs) fs
raise_still e es fs a = alike_trans (raise e es fs) es fs (alike_turn es (raise e es fs) (raise_alike e es fs a)) a

raise_own : (e : ℕ) (es fs : List Edge) → Alike es fs → cost_at (raise e es fs) e ≡ cost_at fs e
unfolding raise cost_at edge_cost
raise_own e [] [] a = refl
raise_own e [] (b ∷ fs) a = absurd a
raise_own e (a ∷ es) [] p = absurd p
raise_own zero (edge i k x c ∷ es) (edge j l y d ∷ fs) a = refl
raise_own (suc e) (a ∷ es) (b ∷ fs) (p, q) = raise_own e es fs q

raise_other : (e f : ℕ) (es fs : List Edge) → ¬ (f ≡ e) → cost_at (raise e es fs) f ≡ cost_at es f
unfolding raise cost_at edge_cost
raise_other e f [] fs n = refl
raise_other e f (a ∷ es) [] n = refl
raise_other zero zero (edge i k x c ∷ es) (edge j l y d ∷ fs) n = absurd (n refl)
raise_other zero (suc f) (edge i k x c ∷ es) (edge j l y d ∷ fs) n = refl
raise_other (suc e) zero (a ∷ es) (b ∷ fs) n = refl
raise_other (suc e) (suc f) (a ∷ es) (b ∷ fs) n = raise_other e f es fs (λ p. n (omega arith))

raised_alike : (l : List ℕ) (es fs : List Edge) → Alike es fs → Alike es (raised l es fs)
unfolding raised
raised_alike [] es fs a = alike_self es
raised_alike (e ∷ l) es fs a =
    alike_trans es (raise e es fs) (raised l (raise e es fs) fs) (raise_alike e es fs a)
    (raised_alike l (raise e es fs) fs (raise_still e es fs a))

raised_other : (l : List ℕ) (es fs : List Edge) (e : ℕ) → ¬ (e ∈ l) → cost_at (raised l es fs) e ≡ cost_at es e
unfolding raised
raised_other [] es fs e n = refl
raised_other (x ∷ l) es fs e n =
    raised_other l (raise x es fs) fs e (λ m. n (Memᴰ.tail m)) ∙ raise_other x e es fs (λ p. n (Memᴰ.head p))

raised_own : (l : List ℕ) (es fs : List Edge) → Alike es fs → (e : ℕ) → e ∈ l → cost_at (raised l es fs) e ≡ cost_at fs e
unfolding raised
raised_own [] es fs a e m = absurd (Memᴰ.not-nil m)
raised_own (x ∷ l) es fs a e m =
    ⊎_elim (raised_own l (raise x es fs) fs (raise_still x es fs a) e) (λ n. ⊎_elim (here n) (λ o. absurd (n o)) (Memᴰ.cases_cons m))
    (in_or_not e l)
  where
    here : ¬ (e ∈ l) → e ≡ x → cost_at (raised l (raise x es fs) fs) e ≡ cost_at fs e
    here n p = raised_other l (raise x es fs) fs e n ∙ rw p (raise_own x es fs a)

module _ (low high : Utterance) (risen : rises low high ≡ true) (t : Tree) where
  pub own_high : (m : Utterance) × OwnHigh t low high m × (edges m ≡ raised (edges_of t) (edges low) (edges high))
  own_high =
      let es = edges low in
      let fs = edges high in
      let alike = risen_alike low high risen in
      let dearer = risen_dearer low high risen in
      let own = raised_own (edges_of t) es fs alike in
      let other = raised_other (edges_of t) es fs in
      let (m, choice, is) = edges_choice low high risen (raised (edges_of t) es fs) (raised_alike (edges_of t) es fs alike)
      (λ e. ⊎_elim (λ u. omega (arith, own e u, dearer e)) (λ n. omega (arith, other e n)) (in_or_not e (edges_of t)))
      (λ e. ⊎_elim (λ u. omega (arith, own e u)) (λ n. omega (arith, other e n, dearer e)) (in_or_not e (edges_of t))) in
      (m, record { choice = choice; own = λ e u. rw is (own e u); other = λ e n. rw is (other e n) }, is)
