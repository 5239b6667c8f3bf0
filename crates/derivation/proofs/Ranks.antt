-- Place x of a cell's ranked list holds the tree with x trees before it: the first x places hold exactly these, each once.
use mathlib.Core.Path.{◌≡◌, refl}
use mathlib.Core.Logic.{◌↔◌}
use mathlib.Core.List.{List}
use Prim.Native.Nat.{ℕ}
use native.Mathlib.Omega.{arith}
use lib.ListN.{length, take}
use lib.Seq.{length-take-le}
use Rattle.packing.specs.declared.Sym.{Sym}
use Rattle.packing.specs.Meaning.{Grammar, Edge}
use Rattle.derivation.specs.Derivation.{At, Tree, Derives}
use Rattle.derivation.specs.Order.{order, Before}
use Rattle.derivation.specs.Rank.{Number}
use Rattle.derivation.specs.List.{ranked}
use Rattle.derivation.proofs.Comparison.{Lawful}
use Rattle.derivation.proofs.Order.{order_lawful}
use Rattle.derivation.proofs.Lists.{at_length}
use Rattle.derivation.proofs.Sorted.{Ascending, ascending_distinct, take_ascending, take_before, number_one}
use Rattle.derivation.proofs.Cell.{ranked_derives, ranked_ascending, place_derives, derives_place}

module _ (g : Grammar) (es : List Edge) (A : Sym) (i k : ℕ) where
  law : Lawful (order g es)
  law = order_lawful g es

  all : List Tree
  all = ranked g es A i k

  ascending : Ascending (order g es) all
  unfolding all
  ascending = ranked_ascending g es A i k

  pub number_all : Number (Derives g es A i k) (length (ranked g es A i k))
  unfolding all
  number_all =
      record { elements = all; once = ascending_distinct law all ascending; those = ranked_derives g es A i k; number_is = refl }

  pub number_before : (t : Tree) (x : ℕ) → At (ranked g es A i k) x t → Number (λ s. Derives g es A i k s × Before g es s t) x
  unfolding all
  number_before t x e = record {
    elements = take x all;
    once = ascending_distinct law (take x all) (take_ascending law x all ascending);
    those = λ s. (
      (λ m. let (p, q) = (take_before law all x t ascending e s).0 m in ((ranked_derives g es A i k s).0 p, q)),
      (λ p. (take_before law all x t ascending e s).1 ((ranked_derives g es A i k s).1 p.0, p.1)),
    );
    number_is = length-take-le x all (omega (arith, at_length all x e));
  }

  -- a tree has one place: the number of trees before it
  pub place_number : (t : Tree) (x : ℕ) → At (ranked g es A i k) x t
      ↔ (Derives g es A i k t × Number (λ s. Derives g es A i k s × Before g es s t) x)
  place_number t x = (
    (λ e. (place_derives g es A i k x e, number_before t x e)),
    (λ p. let (y, e) = derives_place g es A i k p.0 in let same : y ≡ x = number_one law (number_before t y e) p.1 in
        rw same at e),
  )
