-- What the run does at a state that stands in numbers and a stack: a rule that fits and its node lead on, and else it is stuck.
use mathlib.Core.Path.{◌≡◌, refl, sym, ap, ◌∙◌}
use mathlib.Core.Bool.{Bool, true, false}
use mathlib.Core.List.{List, [], ◌∷◌}
use mathlib.Core.Option.{Option, none, some}
use Prim.Native.Nat.{ℕ, zero, suc, ◌+◌, ◌-◌, ◌≤◌, ◌<◌}
use native.Mathlib.Omega.{arith}
use native.Mathlib.Decide.{dec_lt}
use borrow.Author.Tests.{eq-eqb, ne_eqb}
use lib.Dec.{eqb, ltb}
use lib.ListN.{length, get_or, get_elem?}
use Rattle.bits.specs.Bits.{pick}
use Rattle.packing.specs.declared.Sym.{Sym}
use Rattle.packing.specs.declared.Word as W
use Rattle.packing.specs.declared.Rule as R
use Rattle.packing.specs.declared.Rule.TheVariants.{Pair, Word}
use Rattle.packing.specs.Meaning.{symbol_of, Edge, Node}
use Rattle.packing.specs.Parse.{parsed, failed}
use Rattle.packing.specs.Source.{Source}
use Rattle.packing.specs.Flat.{rule_at, rules_of, node_by}
use Rattle.packing.proofs.Flat.{rule_of, no_rule_of}
use Rattle.derivation.specs.Path.{State, onward, stuck, edge_step, pair_step, word_step, step, node_from, run_from, finished, weight_at}
use Rattle.derivation.proofs.Lists.{none≢some}
use Rattle.derivation.proofs.Path.{stuck_none}
use Rattle.parse_stack.specs.Stack.{heads_of, with_head, fit_of, standing}
use Rattle.parse_stack.specs.declared.Progress.{Progress}
use Rattle.std.proofs.Common.{Some}
use Rattle.parse_stack.proofs.Heads.{length_heads, heads_top}
use Rattle.parse_stack.proofs.Fits.{pair_there, word_there}

-- where no rule fits, whatever its kind
module _ (place left : ℕ) (A : Sym) (heads : List Sym) (w : ℕ) where
  pair_lost : (o : Option R.Rule) → with_head A o ≡ none → pair_step place left A heads w o ≡ stuck
  unfolding pair_step
  pair_lost none e = refl
  pair_lost (some (Word H x v)) e = refl
  pair_lost (some (Pair H B C v)) e = go (eqb H.0 A.0) e
    where
      go : (b : Bool) → pick b (some (Pair H B C v)) none ≡ none
          → pick b (pick (ltb (suc (length heads)) left) (onward place left (B ∷ C ∷ heads) (w + v)) stuck) stuck ≡ stuck
      go false f = refl
      go true f = cc

  word_lost : (o : Option R.Rule) (a : Option Edge) → with_head A o ≡ none → word_step place left A heads w o a ≡ stuck
  unfolding word_step
  word_lost none a e = refl
  word_lost (some (Pair H B C v)) a e = refl
  word_lost (some (Word H x v)) a e = go left (eqb H.0 A.0) refl e
    where
      go : (n : ℕ) (b : Bool) → eqb H.0 A.0 ≡ b → pick b (some (Word H x v)) none ≡ none
          → word_step place n A heads w (some (Word H x v)) a ≡ stuck
      go zero b t f = refl
      go (suc n) false t f = rw t
      go (suc n) true t f = cc

pub nothing_fits : (rules : List R.Rule) (es : List Edge) (rule : R.Rule) (place left : ℕ) (heads : List Sym) (w r e : ℕ)
    → fit_of rules heads r ≡ none → stuck ≡ step rules es (onward place left heads w) (node_by rule r e)
unfolding step
nothing_fits rules es rule place left [] w r e f = refl
nothing_fits rules es (Pair H B C v) place left (A ∷ heads) w r e f = sym (pair_lost place left A heads w (get_elem? rules r) f)
nothing_fits rules es (Word H x v) place left (A ∷ heads) w r e f = sym (word_lost place left A heads w (get_elem? rules r) (get_elem? es e) f)

-- the rule of an array that is there is the one at its number
rule_is : (l : List ℕ) (n r : ℕ) {rule : R.Rule} → get_elem? (rules_of l n) r ≡ some rule → rule_at l r ≡ rule
rule_is l n r {rule} e = go (dec_lt r n)
  where
    go : Dec (r < n) → rule_at l r ≡ rule
    go (yes h) = let f : some (rule_at l r) ≡ some rule = sym (rule_of l n r h) ∙ e in cc
    go (no h) = absurd (none≢some (sym (no_rule_of l 0 n r (omega arith)) ∙ e))

-- where one fits
module _ (array : List ℕ) (count : ℕ) (es : List Edge) (stack : List ℕ) (at : Progress) (r e : ℕ) where
  abbrev rules : List R.Rule
  rules = rules_of array count

  abbrev node : Node
  node = node_by (rule_at array r) r e

  abbrev below : List Sym
  below = heads_of stack (at.height - 1)

  pub pair_fits : {H B C : Sym} {v : ℕ} → fit_of rules (heads_of stack at.height) r ≡ some (Pair H B C v)
      → step rules es (standing stack (Some at)) node
      ≡ pick (ltb at.height at.left) (onward at.place at.left (B ∷ C ∷ below) (at.weight + v)) stuck
  unfolding step pair_step
  pair_fits f =
      let (h, there) = pair_there rules stack at.height r f in
      let n : suc (at.height - 1) ≡ at.height = omega arith in
      rw (
        rule_is array count r there,
        heads_top stack at.height h,
        there,
        eq-eqb (get_or stack (at.height - 1) 0) (get_or stack (at.height - 1) 0) refl,
        length_heads stack (at.height - 1),
        n,
      )

  pub word_fits : {H : Sym} {x : W.Word} {v : ℕ} → at.height ≤ at.left → fit_of rules (heads_of stack at.height) r ≡ some (Word H x v)
      → step rules es (standing stack (Some at)) node ≡ edge_step x at.place (at.left - 1) below (at.weight + v) (get_elem? es e)
  unfolding step word_step
  word_fits {H} {x} {v} l f =
      let (h, there) = word_there rules stack at.height r f in
      let n : at.left ≡ suc (at.left - 1) = omega arith in
      rw (rule_is array count r there, heads_top stack at.height h)
      (ap (λ (m : ℕ). word_step at.place m (symbol_of (get_or stack (at.height - 1) 0)) below at.weight (get_elem? rules r) (get_elem? es e)) n
      ∙ rw (there, eq-eqb (get_or stack (at.height - 1) 0) (get_or stack (at.height - 1) 0) refl))

-- the turns of a loop over m nodes
module _ (rules : List R.Rule) (es : List Edge) (src : Source) (last m i : ℕ) (s : State) (at : ℕ) where
  abbrev left : Option ℕ
  left = weight_at last (run_from rules es src (m - i) s at)

  module _ (h : i < m) where
    pub not_read : {n : ℕ} → node_from rules src at ≡ failed n → none ≡ left
    unfolding run_from
    not_read p = let z : m - i ≡ suc (m - (i + 1)) = omega arith in rw (z, p)

    pub read_on : {x : Node} {next : ℕ} {t : State} → node_from rules src at ≡ parsed x next → t ≡ step rules es s x
        → weight_at last (run_from rules es src (m - (i + 1)) t next) ≡ left
    unfolding run_from
    read_on p q = let z : m - i ≡ suc (m - (i + 1)) = omega arith in rw (z, p, q)

    pub read_lost : {x : Node} (next : ℕ) → node_from rules src at ≡ parsed x next → stuck ≡ step rules es s x → none ≡ left
    read_lost next p q = sym (stuck_none rules es src last (m - (i + 1)) next) ∙ read_on p q

  pub all_read : m ≤ i → left ≡ finished last s
  unfolding run_from
  all_read h = let z : m - i ≡ 0 = omega arith in rw z

-- a path has ended where none of its edges is left and its place is the last
pub at_end : (stack : List ℕ) (at : Progress) (last : ℕ) → at.height ≤ at.left → finished last (standing stack (Some at))
    ≡ pick (eqb at.left 0) (pick (eqb at.place last) (some at.weight) none) none
unfolding finished heads_of
at_end stack at last l = go at.left at.height l
  where
    go : (left height : ℕ) → height ≤ left → finished last (onward at.place left (heads_of stack height) at.weight)
        ≡ pick (eqb left 0) (pick (eqb at.place last) (some at.weight) none) none
    go zero zero l = refl
    go zero (suc n) l = absurd (omega arith)
    go (suc m) n l = rw (ne_eqb (suc m) 0 (λ e. omega arith))
