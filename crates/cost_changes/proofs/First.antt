-- The first tree of a cell has least weight; where there is a tree there is a first, and it stands at the front of the ranked list. So it is
-- of the first reading of an utterance.
use mathlib.Core.Path.{◌≡◌, refl, sym, ◌∙◌}
use mathlib.Core.Logic.{◌↔◌}
use mathlib.Core.Option.{none}
use mathlib.Core.List.{List}
use Prim.Native.Nat.compare
use Prim.Native.Nat.{ℕ, zero, suc, ◌≤◌}
use native.Mathlib.Omega.{arith}
use lib.ListN.{length}
use Rattle.packing.specs.declared.Sym.{Sym}
use Rattle.packing.specs.Meaning.{symbol_of, Grammar, Utterance, Edge, edges, slots}
use Rattle.derivation.specs.Derivation.{At, Tree, Derives, Derivation, weight}
use Rattle.derivation.specs.List.{ranked}
use Rattle.derivation.specs.HeardList.{derivations}
use Rattle.derivation.proofs.Order.{order_price}
use Rattle.derivation.proofs.Lists.{none≢some, at_length, length_at}
use Rattle.derivation.proofs.Cell.{ranked_order, derives_place}
use Rattle.derivation.proofs.Ranks.{place_number}
use Rattle.cost_changes.specs.Costs.{First, FirstWeight}
use Rattle.cost_changes.specs.Ranges.{HasLeast}
use Rattle.cost_changes.specs.Passes.{first_of}

module _ (g : Grammar) (es : List Edge) (A : Sym) (i k : ℕ) where
  pub front_least : {s t : Tree} → At (ranked g es A i k) 0 t → Derives g es A i k s → weight g es t ≤ weight g es s
  front_least {s} {t} f d = let (m, e) = derives_place g es A i k d in go m e
    where
      go : (m : ℕ) → At (ranked g es A i k) m s → weight g es t ≤ weight g es s
      go zero e = let p : t ≡ s = cc in rw p (omega arith)
      go (suc m) e = (order_price g es t s (ranked_order g es A i k 0 (suc m) f e ∙ compare.zero-suc m)).0

  pub derives_front : {s : Tree} → Derives g es A i k s → (t : Tree) × At (ranked g es A i k) 0 t
  derives_front d =
      let (m, e) = derives_place g es A i k d in
      let h = at_length (ranked g es A i k) m e in
      length_at (ranked g es A i k) 0 (omega arith)

module _ (g : Grammar) (u : Utterance) where
  pub place_first : {t : Tree} → At (derivations g (slots u)) 0 t → First g u t
  place_first {t} e =
      let (d, n) = (place_number g (edges u) (symbol_of 0) 0 (length u) t 0).0 e in
      record { derivation = d; rank = (0, n, refl) }

  pub first_place : {t : Tree} → First g u t → At (derivations g (slots u)) 0 t
  first_place {t} f =
      let (x, n, q) = f.rank in
      let same : x ≡ 0 = omega arith in
      (place_number g (edges u) (symbol_of 0) 0 (length u) t 0).1 (f.derivation, rw same at n)

  pub first_unique : {s t : Tree} → First g u s → First g u t → s ≡ t
  first_unique {s} {t} a b = let p = first_place a in let q = first_place b in cc

  pub first_least : {t : Tree} → First g u t → HasLeast g u t
  first_least f s d = front_least g (edges u) (symbol_of 0) 0 (length u) (first_place f) d

  pub derives_first : {s : Tree} → Derivation g (slots u) s → (t : Tree) × First g u t
  derives_first d = let (t, e) = derives_front g (edges u) (symbol_of 0) 0 (length u) d in (t, place_first e)

  -- a derivation has least weight exactly if its weight is the first's
  pub has_least : (w : ℕ) (t : Tree) → FirstWeight g u w → Derivation g (slots u) t → HasLeast g u t ↔ (weight g (edges u) t ≡ w)
  has_least w t (s, f, e) d = (
    (λ h. omega (arith, h s f.derivation, first_least f t d)),
    (λ p v b. omega (arith, first_least f v b)),
  )

  -- where there is none there is no derivation
  pub none_derives : first_of g (edges u) (length u) ≡ none → (t : Tree) → ¬ Derivation g (slots u) t
  none_derives e t d = let (s, f) = derives_first d in none≢some (sym e ∙ first_place f)
