-- What the numbers of arrays mean: 0 is none, and v + 1 is v. So read, the models of the code are cost_changes' definitions.
use mathlib.Core.Path.{◌≡◌, refl, sym, ap}
use mathlib.Core.Bool.{Bool, true, false}
use mathlib.Core.Option.{Option, none, some}
use mathlib.Core.List.{List}
use Prim.Native.Nat.{ℕ, zero, suc, ◌-◌, min}
use native.Mathlib.Omega.{arith}
use native.Mathlib.Numerals.{add-one}
use lib.Dec.{eqb, ltb}
use lib.ListN.{get_or, get_elem?}
use borrow.Author.Tests.{eq-eqb, ne_eqb, ltb-true, ltb-false}
use Rattle.bits.specs.Bits.{pick}
use Rattle.packing.specs.declared.Sym.{Sym}
use Rattle.packing.specs.Meaning.{Grammar, Edge}
use Rattle.derivation.specs.Derivation.{Tree, weight}
use Rattle.derivation.specs.List.{ranked}
use Rattle.derivation.proofs.Lists.{none≢some}
use Rattle.chart_table.specs.declared.Layout.{Layout}
use Rattle.chart_table.specs.Table.{cell, cell_number, price_at}
use Rattle.chart_theory.proofs.Chart.{FirstIs}
use Rattle.cost_changes.specs.Outside as O
use Rattle.cost_changes.specs.Outside.{Cells, inside}
use Rattle.cost_changes.proofs.Inside.{inside_first, inside_none}
use Rattle.outside_entries.specs.Entries.{lesser, inside_at}

unfoldable pub read : ℕ → Option ℕ
read zero = none
read (suc v) = some v

-- back: a number that reads as none is 0, and one that reads as v is v + 1
pub read_none : (a : ℕ) → read a ≡ none → a ≡ 0
unfolding read
read_none zero e = refl
read_none (suc v) e = absurd (none≢some (sym e))

pub read_some : (a v : ℕ) → read a ≡ some v → a ≡ suc v
unfolding read
read_some zero v e = absurd (none≢some e)
read_some (suc a) v e = let h : a ≡ v = cc in ap suc h

-- a number is read as some where it is not 0
pub read_suc : (a : ℕ) → ¬ (a ≡ 0) → read a ≡ some (a - 1)
unfolding read
read_suc zero n = absurd (n refl)
read_suc (suc a) n = let h : a ≡ suc a - 1 = omega arith in ap some h

pub not_zero : (a : ℕ) → eqb (suc a) 0 ≡ false
not_zero a = ne_eqb (suc a) 0 (λ e. omega arith)

pub lesser_read : (a b : ℕ) → read (lesser a b) ≡ O.lesser (read a) (read b)
unfolding lesser read O.lesser
lesser_read zero b = refl
lesser_read (suc a) zero = rw (not_zero a)
lesser_read (suc a) (suc b) = rw (not_zero a, not_zero b) (go (ltb (suc b) (suc a)) refl)
  where
    go : (t : Bool) → ltb (suc b) (suc a) ≡ t → read (pick t (suc b) (suc a)) ≡ some (min a b)
    go true e = let h = ltb-true (suc b) (suc a) e in let z : b ≡ min a b = omega arith in ap some z
    go false e = let h = ltb-false (suc b) (suc a) e in let z : a ≡ min a b = omega arith in ap some z

-- the cells of an array, and of a table
abbrev pub outer_in : Layout → List ℕ → Cells
outer_in d o A i k = read (get_or o (cell_number d (cell A i k)) 0)

abbrev pub inner_in : Layout → List ℕ → Cells
inner_in d t A i k = read (inside_at t d (cell_number d (cell A i k)))

-- the first ranks of a table are the inside weights
pub inside_read : (g : Grammar) (es : List Edge) (d : Layout) (t : List ℕ) (A : Sym) (i k : ℕ) → FirstIs g es d t (cell A i k)
    → inner_in d t A i k ≡ inside g es A i k
unfolding inside_at read
inside_read g es d t A i k first = go (get_elem? (ranked g es A i k) 0) refl
  where
    go : (z : Option Tree) → get_elem? (ranked g es A i k) 0 ≡ z
        → inner_in d t A i k ≡ inside g es A i k
    go none e = rw (eq-eqb (price_at t d (cell_number d (cell A i k)) 0) 0 (first.none e)) (sym (inside_none g es A i k e))
    go (some z) e =
        let (found, weighs) = first.some z e in
        rw (ne_eqb (price_at t d (cell_number d (cell A i k)) 0) 0 (λ q. omega arith), weighs, add-one (weight g es z)) (sym (inside_first g es A i k z e))
