-- A rule whose parts' masks meet nowhere hands nothing on. The masks are of the table with or without its fourth numbers, for prices are the same.
use mathlib.Core.Path.{◌≡◌, refl, sym, ◌∙◌}
use mathlib.Core.Logic.{◌⊎◌, inl, inr, ⊎_elim}
use mathlib.Core.Bool.{Bool, true, false}
use mathlib.Core.List.{List}
use Prim.Native.Nat.{ℕ, ◌+◌, ◌-◌, ◌≤◌, ◌<◌}
use native.Mathlib.Omega.{arith}
use lib.Dec.{eqb}
use Rattle.bits.specs.Bits.{pick}
use Rattle.packing.proofs.Loop.{iter_keeps}
use Rattle.packing.specs.declared.Sym.{Sym}
use Rattle.chart_masks.specs.Masks.{Apart}
use Rattle.chart_table.specs.declared.Cell.{Cell}
use Rattle.chart_table.specs.declared.Layout.{Layout}
use Rattle.chart_table.specs.Table.{cell, cell_number, price_at}
use Rattle.found_masks.specs.Marks.{MarkedAll, UpTo, Found}
use Rattle.outside_entries.specs.Entries.{plain, inside_at, push_split}
use Rattle.outside_entries.proofs.Steps.{inside_none}
use Rattle.outside_entries.proofs.Views.{price_plain}
use Rattle.outside_theory.specs.Model.{push_splits}

-- all cells of a layout are marked
pub found_all : (t : List ℕ) {d : Layout} {m m' : List ℕ} → MarkedAll t d (UpTo d.symbols d.last) m m' → Found (plain t) d m'
found_all t {d = d} q = record {
  all = λ c p. record {
    ends = λ e. price_plain t d (cell_number d c) ∙ (q.all c p).ends e;
    starts = λ e. price_plain t d (cell_number d c) ∙ (q.all c p).starts e;
  };
}

-- parts that meet nowhere
module _ (t : List ℕ) (d : Layout) (c : Cell) (L R : Sym) (a : ℕ) where
  split_same : (u : List ℕ) (l r : ℕ) → (price_at t d l 0 ≡ 0) ⊎ (price_at t d r 0 ≡ 0) → push_split u t d l r a ≡ u
  unfolding push_split
  split_same u l r h = ⊎_elim (λ e. rw (sym (inside_none t d l refl e))) (λ e. rw (sym (inside_none t d r refl e)) (go (eqb (inside_at t d l) 0))) h
    where
      go : (b : Bool) → pick b u u ≡ u
      go true = refl
      go false = refl

  pub apart_same : {m : List ℕ} → Found t d m → Apart m d L R c → c.to ≤ d.last → (o : List ℕ) → o ≡ push_splits o t d c L R a
  unfolding push_splits
  apart_same found apart upto o =
      sym (iter_keeps (λ x u. u ≡ o)
      (λ u x. push_split u t d (cell_number d (cell L c.from (c.from + x + 1))) (cell_number d (cell R (c.from + x + 1) c.to)) a) o
      (c.to - c.from - 1) refl (λ x u l e. split_same u _ _ (nothing (c.from + x + 1) (omega arith) (omega arith)) ∙ e))
    where
      nothing : (j : ℕ) → c.from < j → j < c.to
          → (price_at t d (cell_number d (cell L c.from j)) 0 ≡ 0) ⊎ (price_at t d (cell_number d (cell R j c.to)) 0 ≡ 0)
      nothing j b e =
          ⊎_elim (λ z. inl ((found.all (cell L c.from j) (apart.left, b, omega arith)).ends z))
          (λ z. inr ((found.all (cell R j c.to) (apart.right, e, upto)).starts z)) (apart.disjoint j)
