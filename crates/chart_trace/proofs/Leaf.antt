-- A leaf of any edge, by that of the last one.
use mathlib.Core.Path.{◌≡◌, refl, sym, ◌∙◌}
use mathlib.Core.Bool.{Bool, true, false, false≢true}
use mathlib.Core.List.{List}
use Prim.Native.Nat.{ℕ, suc, zero, ◌-◌, ◌<◌}
use native.Mathlib.Omega.{arith}
use Rattle.std.specs.Prelude.{Option, Some, None, is_some}
use Rattle.bits.specs.Bits.{pick}
use Rattle.packing.specs.declared.Word.{Word}
use Rattle.chart_table.specs.declared.Cell.{Cell}
use Rattle.chart_trace.specs.declared.checked.CheckedNode.{CheckedNode}
use Rattle.chart_trace.specs.Checked.{edge_fits, leaf_of, any_leaf}

module _ (edges : List ℕ) (E : ℕ) (c : Cell) (x : Word) (w : ℕ) where
  go_some : (b : Bool) (n : CheckedNode) (m : Option CheckedNode) → is_some (pick b (Some n) None) ≡ true → pick b (Some n) m ≡ pick b (Some n) None
  go_some true n m h = refl
  go_some false n m h = absurd (false≢true h)

  go_none : (b : Bool) (n : CheckedNode) (m : Option CheckedNode) → is_some (pick b (Some n) None) ≡ false → pick b (Some n) m ≡ m
  go_none true n m h = absurd (false≢true (sym h))
  go_none false n m h = refl

  last : (e : ℕ) → 0 < e → any_leaf edges E c x w e
      ≡ pick (edge_fits edges E c (e - 1) x) (Some (leaf_of edges (e - 1) w)) (any_leaf edges E c x w (e - 1))
  unfolding any_leaf
  last zero l = absurd (omega arith)
  last (suc e) l = let z : suc e - 1 ≡ e = omega arith in rw z

  module _ (e : ℕ) where
    abbrev Leaf_read : Option CheckedNode → Type 0
    Leaf_read r = r ≡ pick (edge_fits edges E c (e - 1) x) (Some (leaf_of edges (e - 1) w)) None

    pub fits : {r : Option CheckedNode} → 0 < e → Leaf_read r → is_some r ≡ true → any_leaf edges E c x w e ≡ r
    fits l read some = last e l ∙ go_some _ _ _ (rw read at some) ∙ sym read

    pub unfit : {r : Option CheckedNode} → 0 < e → Leaf_read r → is_some r ≡ false → any_leaf edges E c x w e ≡ any_leaf edges E c x w (e - 1)
    unfit l read none = last e l ∙ go_none _ _ _ (rw read at none)
