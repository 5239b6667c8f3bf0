-- The inside weight of a cell is the least weight of its trees.
use mathlib.Core.Path.{◌≡◌, refl}
use mathlib.Core.Option.{Option, none, some}
use mathlib.Core.List.{List}
use Prim.Native.Nat.{ℕ}
use lib.ListN.{get_elem?}
use Rattle.packing.specs.declared.Sym.{Sym}
use Rattle.packing.specs.Meaning.{Grammar, Edge}
use Rattle.derivation.specs.Derivation.{At, Tree, Derives, weight}
use Rattle.derivation.specs.List.{ranked}
use Rattle.derivation.proofs.Cell.{place_derives}
use Rattle.derivation.proofs.Lists.{none≢some}
use Rattle.cost_changes.specs.Outside.{weight_if, inside}
use Rattle.cost_changes.proofs.First.{front_least, derives_front}
use Rattle.cost_changes.proofs.Least.{IsLeast}

module _ (g : Grammar) (es : List Edge) (A : Sym) (i k : ℕ) where
  pub inside_least : IsLeast (Derives g es A i k) (weight g es) (inside g es A i k)
  unfolding inside weight_if
  inside_least = record {
    found = λ v e. go (get_elem? (ranked g es A i k) 0) refl v e;
    finds = λ t d.
        let (f, e) = derives_front g es A i k d in
        (weight g es f, rw e, front_least g es A i k e d);
  }
    where
      go : (o : Option Tree) → get_elem? (ranked g es A i k) 0 ≡ o → (v : ℕ) → weight_if g es o ≡ some v
          → (t : Tree) × Derives g es A i k t × (weight g es t ≡ v)
      go none p v e = absurd (none≢some e)
      go (some t) p v e = let h : weight g es t ≡ v = cc in (t, place_derives g es A i k 0 p, h)

  -- by the first of the ranked list
  pub inside_first : (t : Tree) → At (ranked g es A i k) 0 t → inside g es A i k ≡ some (weight g es t)
  unfolding inside weight_if
  inside_first t e = rw e

  pub inside_none : get_elem? (ranked g es A i k) 0 ≡ none → inside g es A i k ≡ none
  unfolding inside weight_if
  inside_none e = rw e
