-- A filter has each item that was read, at a place that items which are alike share; so an item that it does not have is like none of these.
-- It may have others. Assumes nothing.
use mathlib.Core.Path.{◌≡◌, refl}
use mathlib.Core.Bool.{Bool, true, false, false≢true}
use mathlib.Core.List.{List, [], ◌∷◌, ◌++◌}
use Prim.Native.Nat.{ℕ, ◌+◌, ◌<◌}
use native.Mathlib.Numerals.{add-one}
use native.Mathlib.Omega.{arith}
use native.Mathlib.Decide.{ℕ_discrete}
use borrow.Author.Tests.{eqb-true}
use lib.Dec.{eqb}
use lib.ListN.{length, get_or, take, set}
use lib.Seq.{take-suc-set, get_or-set_same, get_or-set_other}
use Rattle.packing.specs.Alike.{any_like}
use Rattle.packing.proofs.Alike.{like_more}
use Rattle.rules_reader.specs.Rules.{Filters, Filtered, filter_place}

module _ {A : Type 0} (like : A → A → Bool) (place : A → ℕ) where
  pub filters_none : (filter : List ℕ) → Filters like place [] filter
  unfolding any_like
  filters_none filter x h = absurd (false≢true h)

  pub filters_miss : (x : A) (l : List A) (filter : List ℕ) → Filters like place l filter → get_or filter (place x) 0 ≡ 0 → false ≡ any_like like x l
  filters_miss x l filter h z = go (any_like like x l) refl
    where
      go : (b : Bool) → any_like like x l ≡ b → false ≡ b
      go true e = absurd (omega (arith, h x e))
      go false e = refl

  -- an item more
  pub filters_more : ((x y : A) → like x y ≡ true → place x ≡ place y) → (l : List A) (filter : List ℕ) (y : A) → place y < length filter
      → Filters like place l filter → Filters like place (l ++ (y ∷ [])) (set filter (place y) 1)
  filters_more alike l filter y room h x e = go (ℕ_discrete (place x) (place y))
    where
      earlier : (place x ≡ place y → ⊥) → (b : Bool) → like x y ≡ b → any_like like x l ≡ true
      earlier other true t = absurd (other (alike x y t))
      earlier other false t = rw (like_more like x y l, t) at e

      go : Dec (place x ≡ place y) → get_or (set filter (place y) 1) (place x) 0 ≡ 1
      go (yes same) = rw (same, get_or-set_same filter (place y) 1 0 room)
      go (no other) = rw (get_or-set_other filter (place y) (place x) 1 0 other) (h x (earlier other (like x y) refl))

-- a key more in an array
pub filtered_more : (keys filter : List ℕ) (i k : ℕ) → i < length keys → filter_place k < length filter → Filtered (take i keys) filter
    → Filtered (take (i + 1) (set keys i k)) (set filter (filter_place k) 1)
filtered_more keys filter i k room place h =
    rw (add-one i, take-suc-set keys i k room)
    (filters_more eqb filter_place (λ x y e. rw (eqb-true x y e)) (take i keys) filter k place h)
