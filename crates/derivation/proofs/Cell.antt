-- The ranked list of a cell (head, from, to): its members are the cell's trees, and they compare as their places do.
use mathlib.Core.Path.{◌≡◌}
use mathlib.Core.Logic.{◌↔◌}
use mathlib.Core.List.{List}
use Prim.Native.Nat.{ℕ, compare}
use Rattle.packing.specs.declared.Sym.{Sym}
use Rattle.packing.specs.Meaning.{Grammar, Edge}
use Rattle.derivation.specs.Derivation.{At, Tree, Derives}
use Rattle.derivation.specs.Order.{order}
use Rattle.derivation.specs.Rank.{◌∈◌}
use Rattle.derivation.specs.List.{trees, ranked}
use Rattle.derivation.proofs.Comparison.{Lawful}
use Rattle.derivation.proofs.Order.{order_lawful}
use Rattle.derivation.proofs.Lists.{mem_at, at_mem}
use Rattle.derivation.proofs.Sorted.{Ascending, at_order, sort_mem, sort_ascending}
use Rattle.derivation.proofs.Trees.{trees_derive}

module _ (g : Grammar) (es : List Edge) (A : Sym) (i k : ℕ) where
  law : Lawful (order g es)
  law = order_lawful g es

  pub ranked_derives : (t : Tree) → t ∈ ranked g es A i k ↔ Derives g es A i k t
  unfolding ranked
  ranked_derives t = (
    (λ m. (trees_derive g es A i k t).0 ((sort_mem law (trees g es A i k) t).0 m)),
    (λ d. (sort_mem law (trees g es A i k) t).1 ((trees_derive g es A i k t).1 d)),
  )

  pub ranked_ascending : Ascending (order g es) (ranked g es A i k)
  unfolding ranked
  ranked_ascending = sort_ascending law (trees g es A i k)

  pub ranked_order : (m n : ℕ) {s t : Tree} → At (ranked g es A i k) m s → At (ranked g es A i k) n t
      → order g es s t ≡ compare m n
  ranked_order m n {s} {t} e f = at_order law (ranked g es A i k) m n s t ranked_ascending e f

  -- a place holds a tree, and a tree has a place
  pub place_derives : (m : ℕ) {t : Tree} → At (ranked g es A i k) m t → Derives g es A i k t
  place_derives m {t} e = (ranked_derives t).0 (at_mem (ranked g es A i k) m e)

  pub derives_place : {t : Tree} → Derives g es A i k t → (m : ℕ) × At (ranked g es A i k) m t
  derives_place {t} d = mem_at ((ranked_derives t).1 d)
