-- The stack's symbols change where it is written, and the one on top decides which rules fit.
use mathlib.Core.Path.{◌≡◌, refl, ap}
use mathlib.Core.Bool.{Bool, true, false}
use mathlib.Core.List.{List, [], ◌∷◌}
use mathlib.Core.Option.{none, some}
use Prim.Native.Nat.{ℕ, zero, suc, ◌+◌, ◌-◌, ◌≤◌, ◌<◌}
use native.Mathlib.Numerals.{add-one}
use native.Mathlib.Omega.{arith}
use lib.Dec.{eqb}
use lib.ListN.{length, get_or, get_elem?, set, length-set}
use lib.Seq.{get_or-set_same, get_or-set_other}
use Rattle.std.specs.Bool.{then_some}
use Rattle.bits.specs.Bits.{pick}
use Rattle.packing.specs.Meaning.{symbol_of}
use Rattle.packing.specs.declared.Sym.{Sym}
use Rattle.packing.specs.declared.Rule as R
use Rattle.parse_stack.specs.Stack.{heads_of, head_of, with_head, fit_of, option_of}

-- what a test lets through
pub chosen : {A : Type 0} (b : Bool) (a : A) → option_of (then_some b a) ≡ pick b (some a) none
chosen true a = refl
chosen false a = refl

pub length_heads : (l : List ℕ) (n : ℕ) → length (heads_of l n) ≡ n
unfolding heads_of
length_heads l zero = refl
length_heads l (suc n) = ap suc (length_heads l n)

heads_below : (l : List ℕ) (n i v : ℕ) → n ≤ i → heads_of (set l i v) n ≡ heads_of l n
unfolding heads_of
heads_below l zero i v h = refl
heads_below l (suc n) i v h = rw (get_or-set_other l i n v 0 (λ e. omega arith), heads_below l n i v (omega arith))

pub heads_top : (l : List ℕ) (n : ℕ) → 1 ≤ n → heads_of l n ≡ symbol_of (get_or l (n - 1) 0) ∷ heads_of l (n - 1)
unfolding heads_of
heads_top l zero h = absurd (omega arith)
heads_top l (suc n) h = let z : suc n - 1 ≡ n = omega arith in rw z

pub heads_pushed : (l : List ℕ) (n b c : ℕ) → 1 ≤ n → n < length l → heads_of (set (set l (n - 1) c) n b) (n + 1) ≡ symbol_of b ∷ symbol_of c
    ∷ heads_of l (n - 1)
unfolding heads_of
heads_pushed l zero b c h k = absurd (omega arith)
heads_pushed l (suc n) b c h k =
    let z : suc n - 1 ≡ n = omega arith in
    let s : List ℕ = set l n c in
    rw (
      z,
      add-one,
      get_or-set_same s (suc n) b 0 (simp length-set (omega arith)),
      get_or-set_other s (suc n) n b 0 (λ e. omega arith),
      get_or-set_same l n c 0 (omega arith),
      heads_below s n (suc n) b (omega arith),
      heads_below l n n c (omega arith),
    )

-- where there is no part, no rule fits
pub no_part : (rules : List R.Rule) (l : List ℕ) (n r : ℕ) → n ≡ 0 → none ≡ fit_of rules (heads_of l n) r
unfolding heads_of
no_part rules l n r e = rw e

-- where there is no rule neither
pub no_rule : (rules : List R.Rule) (heads : List Sym) (r : ℕ) → get_elem? rules r ≡ none → none ≡ fit_of rules heads r
no_rule rules [] r e = refl
no_rule rules (A ∷ heads) r e = rw e

-- and else its head decides
pub rule_fit : (rules : List R.Rule) (l : List ℕ) (n r : ℕ) {rule : R.Rule} → 1 ≤ n → get_elem? rules r ≡ some rule
    → fit_of rules (heads_of l n) r ≡ with_head (symbol_of (get_or l (n - 1) 0)) (some rule)
rule_fit rules l n r h e = rw (heads_top l n h, e)

-- a rule that the test on its head lets through
pub found : (rules : List R.Rule) (l : List ℕ) (n r : ℕ) {rule : R.Rule} → 1 ≤ n → get_elem? rules r ≡ some rule
    → option_of (then_some (eqb (head_of rule).0 (get_or l (n - 1) 0)) rule) ≡ fit_of rules (heads_of l n) r
found rules l n r {rule} h e = rw (rule_fit rules l n r h e) (chosen (eqb (head_of rule).0 (get_or l (n - 1) 0)) rule)
