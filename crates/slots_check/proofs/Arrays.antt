-- A word's cost is looked for among the candidates of an array one by one.
use mathlib.Core.Path.{◌≡◌}
use mathlib.Core.List.{List}
use mathlib.Core.Bool.{Bool, true, false}
use mathlib.Core.Option.{none, some}
use Rattle.std.proofs.Common.{Option}
use Rattle.std.specs.Bool.{then_some}
use Prim.Native.Nat.{ℕ, suc, ◌+◌, ◌-◌, ◌*◌, ◌^◌, ◌≤◌, ◌<◌}
use native.Mathlib.Omega.{arith}
use borrow.Author.Tests.{eq-eqb, ne_eqb}
use lib.Dec.{ltb}
use lib.ListN.{get_or}
use Rattle.bits.specs.Bits.{pick}
use Rattle.packing.specs.declared.Word as W
use Rattle.packing.specs.Meaning.{not_heard}
use Rattle.packing.specs.Flat.{candidates_of}
use Rattle.derivation.specs.Walk.{cost_of}
use Rattle.parse_stack.specs.Stack.{Small}

-- a word's cost among candidates: the turns of a loop over them
module _ (x : W.Word) (l : List ℕ) (start count k : ℕ) where
  pub cost_end : count ≤ k → cost_of x (candidates_of l (count - k) (start + 2 * k)) ≡ none
  unfolding cost_of candidates_of
  cost_end h = let z : count - k ≡ 0 = omega arith in rw z

  module _ (h : k < count) where
    pub cost_here : get_or l (start + 2 * k) 0 ≡ x.0
        → cost_of x (candidates_of l (count - k) (start + 2 * k))
        ≡ pick (ltb (get_or l (start + 2 * k + 1) 0) not_heard) (some (get_or l (start + 2 * k + 1) 0)) none
    unfolding cost_of candidates_of
    cost_here e = let z : count - k ≡ suc (count - (k + 1)) = omega arith in rw (z, eq-eqb _ _ e)

    pub cost_next : (get_or l (start + 2 * k) 0 ≡ x.0 → ⊥)
        → cost_of x (candidates_of l (count - (k + 1)) (start + 2 * (k + 1))) ≡ cost_of x (candidates_of l (count - k) (start + 2 * k))
    unfolding cost_of candidates_of
    cost_next n =
        let z : count - k ≡ suc (count - (k + 1)) = omega arith in
        let q : start + 2 * (k + 1) ≡ start + 2 * k + 2 = omega arith in
        rw (z, q, ne_eqb _ _ n)

-- a cost that is let through is that of an array
pub small : (b : Bool) (n : ℕ) {r : Option ℕ} → r ≡ then_some b n → n < 2 ^ 32 → Small r
small true n e h = rw e h
small false n e h = rw e tt
