-- The ways out of the functions without a loop: each test of the code is one of the model's.
use mathlib.Core.Path.{◌≡◌, sym, ◌∙◌}
use mathlib.Core.List.{List}
use Prim.Native.Nat.{ℕ, ◌+◌, ◌-◌, ◌≤◌}
use native.Mathlib.Omega.{arith}
use lib.ListN.{get_or}
use borrow.Author.Tests.{eq-eqb, ne_eqb}
use Rattle.packing.specs.declared.Sym.{Sym}
use Rattle.packing.specs.declared.Word as W
use Rattle.packing.specs.declared.Rule.{Rule}
use Rattle.packing.specs.declared.Rule.TheVariants.{Pair, Word}
use Rattle.packing.specs.Flat.{rule_at}
use Rattle.packing.specs.Loop.{iter, over}
use Rattle.packing.proofs.Loop.{iter_more}
use Rattle.chart_table.specs.declared.Cell.{Cell}
use Rattle.chart_table.specs.declared.Layout.{Layout}
use Rattle.chart_table.specs.Table.{cell_number}
use Rattle.outside_theory.specs.Model.{push_splits, push_rule, push_rules, push_node}

-- a loop from a number on: no turn, and one turn more
pub from_none : {A : Type 0} (g : A → ℕ → A) (b : A) (n : ℕ) → iter g b (n - n) ≡ b
unfolding iter
from_none g b n = let e : n - n ≡ 0 = omega arith in rw e

pub from_more : {A : Type 0} (g : A → ℕ → A) (b : A) (from y : ℕ) → from ≤ y → over g b from (y + 1) ≡ g (over g b from y) y
from_more g b from y h =
    let e : y + 1 - from ≡ (y - from) + 1 = omega arith in
    let turn : from + (y - from) ≡ y = omega arith in
    rw (e, iter_more, turn)

-- a rule of a node
module _ (o t rules : List ℕ) (d : Layout) (c : Cell) (a r : ℕ) {x : Rule} (found : x ≡ rule_at rules r) where
  pub pair_pushed : {H L R : Sym} {w : ℕ} → x ≡ Pair H L R w → {v : ℕ} → v ≡ w → {o' : List ℕ} → o' ≡ push_splits o t d c L R (a + v)
      → o' ≡ push_rule o t d c a (rule_at rules r)
  pair_pushed p ev e = e ∙ rw (sym found ∙ p, ev)

  pub word_pushed : {H : Sym} {y : W.Word} {w : ℕ} → x ≡ Word H y w → o ≡ push_rule o t d c a (rule_at rules r)
  word_pushed p = rw (sym found ∙ p)

-- a node
module _ (o t rules index : List ℕ) (d : Layout) (c : Cell) {m v : ℕ} (em : m ≡ cell_number d c) (ev : v ≡ get_or o m 0) where
  pub node_none : v ≡ 0 → o ≡ push_node o t rules index d c
  unfolding push_node
  node_none z = rw (← em, ← ev, eq-eqb v 0 z)

  pub node_some : (v ≡ 0 → ⊥) → {o' : List ℕ} → o' ≡ push_rules o t rules index d c v → o' ≡ push_node o t rules index d c
  unfolding push_node
  node_some n e = e ∙ rw (← em, ← ev, ne_eqb v 0 n)
