-- An utterance, and the same without the candidates that were not heard, have the same readings: for a walk takes each slot's word
-- at the same cost. There every candidate was heard, so a leaf is plainly document 001's: a word rule and a word of the slot.
use mathlib.Core.Path.{◌≡◌, refl, sym, ◌∙◌}
use mathlib.Core.Logic.{◌↔◌, ⊎_elim}
use mathlib.Core.Bool.{Bool, true, false}
use mathlib.Core.Option.{Option, none, some}
use mathlib.Core.List.Memᴰ
use mathlib.Core.List.{List, [], ◌∷◌}
use Prim.Native.Nat.{ℕ, suc, ◌+◌, ◌≤◌, ◌<◌}
use native.Mathlib.Omega.{arith}
use borrow.Author.Tests.{eqb-true, ltb-true, ne_eqb}
use lib.Dec.{eqb, ltb}
use lib.ListN.{length, get_elem?, length-map}
use Rattle.bits.specs.Bits.{pick}
use Rattle.packing.specs.declared.Sym.{Sym}
use Rattle.packing.specs.declared.Word as W
use Rattle.packing.specs.declared.Rule as R
use Rattle.packing.specs.declared.Rule.TheVariants.{Pair, Word}
use Rattle.packing.specs.Meaning as M
use Rattle.packing.specs.Meaning.{not_heard, symbol_of, Grammar, Utterance, Candidate, candidate, edge, edges, Reading}
use Rattle.packing.specs.Valid.{ValidUtterance}
use Rattle.derivation.specs.Derivation.{At, Offered, Tree, Derivation, reading}
use Rattle.derivation.specs.Rank.{◌∈◌}
use Rattle.derivation.specs.Walk.{State, onward, stuck, cost_of, leaf_step, rule_step, step, run, finished, walk_weight}
use Rattle.derivation.specs.Struck.{heard, struck_out}
use Rattle.derivation.proofs.Lists.{map_at}
use Rattle.derivation.proofs.Ranges.{AscendingFrom, Ascending, valid_ascending}
use Rattle.derivation.proofs.Slots.{edge_slot}
use Rattle.derivation.proofs.Theorems.{reading_found}

-- where words ascend from above x on, x is not offered
cost_above : (x : W.Word) (slot : List Candidate) (b : ℕ) → x.0 < b → AscendingFrom b slot → cost_of x slot ≡ none
unfolding cost_of
cost_above x [] b l a = refl
cost_above x (candidate y c ∷ slot) b l (h, a) =
    rw (ne_eqb y.0 x.0 (λ e. omega arith)) (cost_above x slot (suc y.0) (omega arith) a)

cost_heard : (x : W.Word) (slot : List Candidate) (b : ℕ) → AscendingFrom b slot → cost_of x (heard slot) ≡ cost_of x slot
unfolding cost_of heard
cost_heard x [] b a = refl
cost_heard x (candidate y c ∷ slot) b (h, a) =
    go (ltb c not_heard) refl (eqb y.0 x.0) refl (cost_heard x slot (suc y.0) a)
  where
    go : (t : Bool) → ltb c not_heard ≡ t → (s : Bool) → eqb y.0 x.0 ≡ s → cost_of x (heard slot) ≡ cost_of x slot
        → cost_of x (pick t (candidate y c ∷ heard slot) (heard slot)) ≡ pick s (pick t (some c) none) (cost_of x slot)
    go true e s f more = rw (e, f, more)
    go false e true f more = more ∙ cost_above x slot (suc y.0) (omega (arith, eqb-true y.0 x.0 f)) a
    go false e false f more = more

module _ (rules : List R.Rule) where
  -- where a walk ends, from slots and from the same without what was not heard
  abbrev Same : State → State → List ℕ → Type 0
  Same s s' numbers = finished (run rules s numbers) ≡ finished (run rules s' numbers)

  abbrev Struck : List ℕ → Type 0
  Struck numbers = (slots : Utterance) (heads : List Sym) (w : ℕ) → Ascending slots
      → Same (onward (struck_out slots) heads w) (onward slots heads w) numbers

  module _ (numbers : List ℕ) (rest : Struck numbers) (A : Sym) (heads : List Sym) (w : ℕ) where
    pair_struck : (H B C : Sym) (v : ℕ) (slots : Utterance) → Ascending slots
        → Same (rule_step (struck_out slots) A heads w (some (Pair H B C v))) (rule_step slots A heads w (some (Pair H B C v))) numbers
    unfolding rule_step
    pair_struck H B C v slots a = rw (length-map slots heard) (go (eqb H.0 A.0) (ltb (suc (length heads)) (length slots)))
      where
        go : (t s : Bool)
            → Same (pick t (pick s (onward (struck_out slots) (B ∷ C ∷ heads) (w + v)) stuck) stuck)
            (pick t (pick s (onward slots (B ∷ C ∷ heads) (w + v)) stuck) stuck) numbers
        go true true = rest slots (B ∷ C ∷ heads) (w + v) a
        go true false = refl
        go false s = refl

    word_struck : (H : Sym) (x : W.Word) (v : ℕ) (slots : Utterance) → Ascending slots
        → Same (rule_step (struck_out slots) A heads w (some (Word H x v))) (rule_step slots A heads w (some (Word H x v))) numbers
    unfolding rule_step leaf_step
    word_struck H x v [] a = refl
    word_struck H x v (slot ∷ slots) (h, a) = rw (cost_heard x slot 0 h) (go (eqb H.0 A.0) (cost_of x slot))
      where
        go : (t : Bool) (o : Option ℕ)
            → Same (pick t (leaf_step (struck_out slots) heads (w + v) o) stuck) (pick t (leaf_step slots heads (w + v) o) stuck) numbers
        go true none = refl
        go true (some c) = rest slots heads (w + v + c) a
        go false o = refl

    step_struck : (rule : Option R.Rule) (slots : Utterance) → Ascending slots
        → Same (rule_step (struck_out slots) A heads w rule) (rule_step slots A heads w rule) numbers
    unfolding rule_step
    step_struck none slots a = refl
    step_struck (some (Pair H B C v)) slots a = pair_struck H B C v slots a
    step_struck (some (Word H x v)) slots a = word_struck H x v slots a

  run_struck : (numbers : List ℕ) → Struck numbers
  unfolding run step finished
  run_struck [] [] heads w a = refl
  run_struck [] (slot ∷ slots) heads w a = refl
  run_struck (r ∷ numbers) slots [] w a = refl
  run_struck (r ∷ numbers) slots (A ∷ heads) w a = step_struck numbers (run_struck numbers) A heads w (get_elem? rules r) slots a

-- what was heard still ascends
heard_ascends : (slot : List Candidate) (b b' : ℕ) → b' ≤ b → AscendingFrom b slot → AscendingFrom b' (heard slot)
unfolding heard
heard_ascends [] b b' l a = tt
heard_ascends (candidate x c ∷ slot) b b' l (h, a) =
    go (ltb c not_heard) (heard_ascends slot (suc x.0) (suc x.0) (omega arith) a) (heard_ascends slot (suc x.0) b' (omega arith) a)
  where
    go : (t : Bool) → AscendingFrom (suc x.0) (heard slot) → AscendingFrom b' (heard slot)
        → AscendingFrom b' (pick t (candidate x c ∷ heard slot) (heard slot))
    go true more less = (omega arith, more)
    go false more less = less

struck_ascends : (u : Utterance) → Ascending u → Ascending (struck_out u)
struck_ascends [] a = tt
struck_ascends (slot ∷ u) (h, a) = (heard_ascends slot 0 0 (omega arith) h, struck_ascends u a)

-- "The comparison with document 001 is made after those candidates are struck out": the readings are the same
pub struck_out_readings : (g : Grammar) (u : Utterance) → ValidUtterance g.words u → (v : Reading)
    → ((t : Tree) × Derivation g (M.slots u) t × (v ≡ reading g u t))
    ↔ ((t : Tree) × Derivation g (M.slots (struck_out u)) t × (v ≡ reading g (struck_out u) t))
unfolding walk_weight
struck_out_readings g u ok v =
    let a = valid_ascending g.words u ok in
    let before = reading_found g u a v in
    let after = reading_found g (struck_out u) (struck_ascends u a) v in
    let same = run_struck g.rules v.walk u (symbol_of 0 ∷ []) 0 a in
    let size = length-map u heard in (
      λ d. let (n, p) = before.1 d in after.0 (n ∙ sym size, same ∙ p),
      λ d. let (n, p) = after.1 d in before.0 (n ∙ size, sym same ∙ p),
    )

-- and there a leaf needs no more than a word that the slot lists
heard_cheap : (slot : List Candidate) {x : W.Word} {c : ℕ} → candidate x c ∈ heard slot → c < not_heard
unfolding heard
heard_cheap [] m = absurd (Memᴰ.not-nil m)
heard_cheap (candidate y d ∷ slot) {x} {c} m = go (ltb d not_heard) refl (heard_cheap slot) m
  where
    go : (t : Bool) → ltb d not_heard ≡ t → (candidate x c ∈ heard slot → c < not_heard)
        → candidate x c ∈ pick t (candidate y d ∷ heard slot) (heard slot) → c < not_heard
    go true e more n =
        ⊎_elim (λ (same : candidate x c ≡ candidate y d). let z : c ≡ d = cc in omega (arith, ltb-true d not_heard e)) more
        (Memᴰ.cases_cons n)
    go false e more n = more n

pub struck_out_offered : (u : Utterance) (e : ℕ) {i k c : ℕ} {x : W.Word} → At (edges (struck_out u)) e (edge i k x c)
    → Offered (edges (struck_out u)) e (edge i k x c)
struck_out_offered u e {i} p =
    let (slot, there, offers, _) = edge_slot (struck_out u) e p in
    let (before, _, is) = map_at heard u i there in
    (p, heard_cheap before (rw is at offers))
