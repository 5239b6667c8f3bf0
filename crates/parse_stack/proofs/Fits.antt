-- A rule that fits is there, and the symbol on top of the stack is its head.
use mathlib.Core.Path.{◌≡◌, refl}
use mathlib.Core.Bool.{Bool, true, false}
use mathlib.Core.List.{List}
use mathlib.Core.Option.{Option, none, some}
use Prim.Native.Nat.{ℕ, zero, suc, ◌-◌, ◌≤◌}
use native.Mathlib.Omega.{arith}
use borrow.Author.Tests.{eqb-true}
use lib.Dec.{eqb}
use lib.ListN.{get_or, get_elem?}
use Rattle.bits.specs.Bits.{pick}
use Rattle.packing.specs.Meaning.{symbol_of}
use Rattle.packing.specs.declared.Sym.{Sym}
use Rattle.packing.specs.declared.Word as W
use Rattle.packing.specs.declared.Rule as R
use Rattle.packing.specs.declared.Rule.TheVariants.{Pair, Word}
use Rattle.derivation.proofs.Trees.{same_sym}
use Rattle.parse_stack.specs.Stack.{heads_of, head_of, with_head, fit_of}

-- of a head and what may be a rule
of_head : (A : Sym) (o : Option R.Rule) {x : R.Rule} → with_head A o ≡ some x → (o ≡ some x) × (head_of x ≡ A)
of_head A none e = cc
of_head A (some y) {x} e = go (eqb (head_of y).0 A.0) refl e
  where
    go : (b : Bool) → eqb (head_of y).0 A.0 ≡ b → pick b (some y) none ≡ some x → (some y ≡ some x) × (head_of x ≡ A)
    go false t f = cc
    go true t f =
        let q : y ≡ x = cc in
        (f, rw q at (same_sym (head_of y) A (eqb-true (head_of y).0 A.0 t)))

-- of the stack
module _ (rules : List R.Rule) (l : List ℕ) where
  there : (n r : ℕ) {x : R.Rule} → fit_of rules (heads_of l n) r ≡ some x
      → (1 ≤ n) × (get_elem? rules r ≡ some x) × (head_of x ≡ symbol_of (get_or l (n - 1) 0))
  unfolding heads_of
  there zero r e = cc
  there (suc m) r e =
      let z : suc m - 1 ≡ m = omega arith in
      let (f, h) = of_head (symbol_of (get_or l m 0)) (get_elem? rules r) e in
      (omega arith, f, rw z h)

  module _ (n r : ℕ) where
    pub pair_there : {H B C : Sym} {v : ℕ} → fit_of rules (heads_of l n) r ≡ some (Pair H B C v)
        → (1 ≤ n) × (get_elem? rules r ≡ some (Pair (symbol_of (get_or l (n - 1) 0)) B C v))
    pair_there e = let (h, f, s) = there n r e in (h, rw s at f)

    pub word_there : {H : Sym} {x : W.Word} {v : ℕ} → fit_of rules (heads_of l n) r ≡ some (Word H x v)
        → (1 ≤ n) × (get_elem? rules r ≡ some (Word (symbol_of (get_or l (n - 1) 0)) x v))
    word_there e = let (h, f, s) = there n r e in (h, rw s at f)
