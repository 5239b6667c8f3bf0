-- What the walk's run does at a state that stands in arrays: a rule that fits leads on, and else it is stuck.
use mathlib.Core.Path.{◌≡◌, refl, sym, ap, ◌∙◌}
use mathlib.Core.Bool.{Bool, true, false}
use mathlib.Core.List.{List, [], ◌∷◌}
use mathlib.Core.Option.{Option, none, some}
use Prim.Native.Nat.{ℕ, zero, suc, ◌+◌, ◌-◌, ◌≤◌, ◌<◌}
use native.Mathlib.Numerals.{add-one}
use native.Mathlib.Omega.{arith}
use borrow.Author.Tests.{eq-eqb, ne_eqb}
use lib.Dec.{eqb, ltb}
use lib.ListN.{length, get_or, get_elem?, drop, drop_of_length-le}
use lib.Seq.{drop-cons}
use Rattle.bits.specs.Bits.{pick}
use Rattle.packing.specs.declared.Sym.{Sym}
use Rattle.packing.specs.declared.Word as W
use Rattle.packing.specs.declared.Rule as R
use Rattle.packing.specs.declared.Rule.TheVariants.{Pair, Word}
use Rattle.packing.specs.Meaning.{symbol_of, Utterance}
use Rattle.packing.specs.Flat.{slots_of, slots_by}
use Rattle.packing.proofs.Flat.{length_slots_by}
use Rattle.derivation.specs.Walk.{State, onward, stuck, cost_of, leaf_step, rule_step, step, run, finished}
use Rattle.derivation.specs.Path as P
use Rattle.derivation.proofs.Walk.{run_stuck}
use Rattle.parse_stack.specs.Stack.{heads_of, with_head, fit_of, standing}
use Rattle.parse_stack.specs.declared.Progress.{Progress}
use Rattle.std.proofs.Common.{Some, None}
use Rattle.std.proofs.Common as std
use Rattle.parse_stack.proofs.Heads.{length_heads, heads_top}
use Rattle.parse_stack.proofs.Fits.{pair_there, word_there}
use Rattle.slots_check.specs.Slots.{slot_at, behind, state_of}

-- where no rule fits
lost : (slots : Utterance) (A : Sym) (heads : List Sym) (w : ℕ) (o : Option R.Rule) → with_head A o ≡ none → rule_step slots A heads w o
    ≡ stuck
unfolding rule_step
lost slots A heads w none e = refl
lost slots A heads w (some (Pair H B C v)) e = go (eqb H.0 A.0) e
  where
    go : (b : Bool) → pick b (some (Pair H B C v)) none ≡ none
        → pick b (pick (ltb (suc (length heads)) (length slots)) (onward slots (B ∷ C ∷ heads) (w + v)) stuck) stuck ≡ stuck
    go false f = refl
    go true f = cc
lost [] A heads w (some (Word H x v)) e = refl
lost (slot ∷ slots) A heads w (some (Word H x v)) e = go (eqb H.0 A.0) e
  where
    go : (b : Bool) → pick b (some (Word H x v)) none ≡ none
        → pick b (leaf_step slots heads (w + v) (cost_of x slot)) stuck ≡ stuck
    go false f = refl
    go true f = cc

pub nothing_fits : (rules : List R.Rule) (slots : Utterance) (heads : List Sym) (w r : ℕ) → fit_of rules heads r ≡ none
    → stuck ≡ step rules (onward slots heads w) r
unfolding step
nothing_fits rules slots [] w r f = refl
nothing_fits rules slots (A ∷ heads) w r f = sym (lost slots A heads w (get_elem? rules r) f)

-- a state of places and parts, of the slots that stand there
in_slots : List ℕ → P.State → State
in_slots slots (P.onward place left heads w) = onward (slots_of slots left place) heads w
in_slots slots P.stuck = stuck

in_slots_lem : (slots stack : List ℕ) (s : std.Option Progress) → state_of slots stack s ≡ in_slots slots (standing stack s)
unfolding in_slots
in_slots_lem slots stack (Some p) = refl
in_slots_lem slots stack None = refl

-- where one fits
module _ (rules : List R.Rule) (slots stack : List ℕ) (at : Progress) (r : ℕ) where
  abbrev from : State
  from = state_of slots stack (Some at)

  abbrev below : List Sym
  below = heads_of stack (at.height - 1)

  pair_step_lem : {H B C : Sym} {v : ℕ} → fit_of rules (heads_of stack at.height) r ≡ some (Pair H B C v)
      → step rules from r ≡ pick (ltb at.height at.left) (onward (slots_of slots at.left at.place) (B ∷ C ∷ below) (at.weight + v)) stuck
  unfolding step rule_step
  pair_step_lem f =
      let (h, there) = pair_there rules stack at.height r f in
      let n : suc (at.height - 1) ≡ at.height = omega arith in
      rw (
        heads_top stack at.height h,
        there,
        eq-eqb (get_or stack (at.height - 1) 0) (get_or stack (at.height - 1) 0) refl,
        length_heads stack (at.height - 1),
        length_slots_by (λ (c : ℕ). c) slots at.left at.place,
        n,
      )

  pub pair_fits : {H B C : Sym} {v : ℕ} (after : List ℕ) (s : std.Option Progress) → fit_of rules (heads_of stack at.height) r ≡ some (Pair H B C v)
      → standing after s ≡ pick (ltb at.height at.left) (P.onward at.place at.left (B ∷ C ∷ below) (at.weight + v)) P.stuck
      → state_of slots after s ≡ step rules from r
  unfolding in_slots
  pair_fits {H} {B} {C} {v} after s f e = in_slots_lem slots after s ∙ ap (in_slots slots) e ∙ go (ltb at.height at.left) ∙ sym (pair_step_lem f)
    where
      go : (b : Bool) → in_slots slots (pick b (P.onward at.place at.left (B ∷ C ∷ below) (at.weight + v)) P.stuck)
          ≡ pick b (onward (slots_of slots at.left at.place) (B ∷ C ∷ below) (at.weight + v)) stuck
      go true = refl
      go false = refl

  pub word_fits : {H : Sym} {x : W.Word} {v : ℕ} → at.height ≤ at.left → fit_of rules (heads_of stack at.height) r ≡ some (Word H x v)
      → step rules from r ≡ leaf_step (slots_of slots (at.left - 1) (behind slots at.place)) below (at.weight + v) (cost_of x (slot_at slots at.place))
  unfolding step rule_step slots_by
  word_fits {H} {x} {v} l f =
      let (h, there) = word_there rules stack at.height r f in
      let n : at.left ≡ suc (at.left - 1) = omega arith in
      let A : Sym = symbol_of (get_or stack (at.height - 1) 0) in
      rw (heads_top stack at.height h, there)
      (ap (λ (m : ℕ). rule_step (slots_of slots m at.place) A below at.weight (some (Word A x v))) n
      ∙ rw (eq-eqb A.0 A.0 refl))

-- the turns of a loop over the numbers of a walk
module _ (rules : List R.Rule) (s : State) (walk : List ℕ) (i : ℕ) where
  pub run_more : i < length walk → {r : ℕ} {next : State} → r ≡ get_or walk i 0 → next ≡ step rules s r
      → run rules next (drop (i + 1) walk) ≡ run rules s (drop i walk)
  unfolding run
  run_more h e f = rw (f, e, drop-cons walk i 0 h, add-one i)

  pub run_lost : i < length walk → {r : ℕ} → r ≡ get_or walk i 0 → stuck ≡ step rules s r → run rules s (drop i walk) ≡ stuck
  run_lost h e f = sym (run_more h e f) ∙ run_stuck rules (drop (i + 1) walk)

  pub run_over : length walk ≤ i → run rules s (drop i walk) ≡ s
  unfolding run
  run_over h = rw (drop_of_length-le walk h)

-- the walk has ended where no slot is left
pub at_end : (slots stack : List ℕ) (at : Progress) → at.height ≤ at.left → finished (state_of slots stack (Some at))
    ≡ pick (eqb at.left 0) (some at.weight) none
unfolding finished slots_by heads_of
at_end slots stack at l = go at.left at.height l
  where
    go : (left height : ℕ) → height ≤ left → finished (onward (slots_of slots left at.place) (heads_of stack height) at.weight)
        ≡ pick (eqb left 0) (some at.weight) none
    go zero zero l = refl
    go zero (suc n) l = absurd (omega arith)
    go (suc m) n l = rw (ne_eqb (suc m) 0 (λ e. omega arith))
