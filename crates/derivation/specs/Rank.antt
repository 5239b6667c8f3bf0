-- Ranks: document 01, "The list of demand 3", of slots and of word graphs alike. Stands on Derivation and Order.
use Rattle.std.specs.Prelude.{◌≡◌, ◌↔◌, ℕ, ◌+◌, length}
use mathlib.Core.List.{List, [], ◌∷◌, Memᴰ}
use Rattle.packing.specs.Meaning.{Grammar, Heard, heard_edges}
use Rattle.derivation.specs.Derivation.{Tree, Derivation}
use Rattle.derivation.specs.Order.{Before}

infix 25 ◌∈◌
-- x is an element of l
abbrev pub ◌∈◌ : {A : Type 0} → A → List A → Type 0
x ∈ l = Memᴰ x l

-- no element twice
abbrev pub Distinct : {A : Type 0} → List A → Type 0
Distinct [] = Unit {0}
Distinct (x ∷ l) = ¬ (x ∈ l) × Distinct l

-- there are n things with the property P: a list of that length has each of them once and nothing else
pub record Number {A : Type 0} (P : A → Type 0) (n : ℕ) : Type 0 where
  pub elements : List A
  pub once : Distinct elements
  pub those : (x : A) → x ∈ elements ↔ P x
  pub number_is : length elements ≡ n

-- a derivation's rank is 1 plus the number of derivations that come before it
abbrev pub Rank : Grammar → Heard → Tree → ℕ → Type 0
Rank g h t k = (n : ℕ) × Number (λ s. Derivation g h s × Before g (heard_edges h) s t) n × (k ≡ 1 + n)
