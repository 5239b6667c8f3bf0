-- Items that are read one after another, none like an earlier one: document 01's rules, 6, and document 02's edges, 52. Assumes
-- nothing.
use Rattle.std.specs.Prelude.{◌≡◌, Bool, true, false, List, [], ◌∷◌, ◌++◌, ℕ, zero, suc}
use Rattle.bits.specs.Bits.{pick}
use Rattle.packing.specs.Parse.{Parse, parsed, failed, ◌⟫◌}

-- one of the list is like x
unfoldable pub any_like : {A : Type 0} → (A → A → Bool) → A → List A → Bool
any_like like x [] = false
any_like like x (y ∷ l) = pick (like x y) true (any_like like x l)

-- n items behind the earlier ones, each read by `item` at its place; one that is like an earlier one is refused with m
unfoldable pub unlike_from : {A : Type 0} → (ℕ → Parse A) → (A → A → Bool) → ℕ → ℕ → ℕ → List A → Parse (List A)
unlike_from item like m zero at l = parsed l at
unlike_from item like m (suc n) at l = item at ⟫ λ x at. pick (any_like like x l) (failed m) (unlike_from item like m n at (l ++ (x ∷ [])))

-- no two of the list are alike
abbrev pub NoTwo : {A : Type 0} → (A → A → Bool) → List A → Type 0
NoTwo like [] = Unit {0}
NoTwo like (x ∷ l) = (any_like like x l ≡ false) × NoTwo like l

-- it is so of each of the list
abbrev pub All : {A : Type 0} → (A → Type 0) → List A → Type 0
All P [] = Unit {0}
All P (x ∷ l) = P x × All P l
