-- Masks: sets of places, or of heads, as the digits of a number to base 2.
-- Nobody need believe this page: what is passed over by masks changes no selection (chart_candidates/proofs/PassedOver). Assumes nothing.
use Rattle.std.specs.Prelude.{◌≡◌, ◌⊎◌, List, ℕ, ◌/◌, ◌%◌, ◌^◌, get_or}

-- place j is in the mask x where its digit is 1
abbrev pub digit : ℕ → ℕ → ℕ
digit x j = x / 2 ^ j % 2

-- two masks have nothing in common
abbrev pub Disjoint : ℕ → ℕ → Type 0
Disjoint x y = (j : ℕ) → (digit x j ≡ 0) ⊎ (digit y j ≡ 0)

-- a mask put into another
pub record Put (m : List ℕ) (at x : ℕ) (m' : List ℕ) : Type 0 where
  pub kept : (y j : ℕ) → digit (get_or m' y 0) j ≡ 0 → digit (get_or m y 0) j ≡ 0
  pub has : (j : ℕ) → digit (get_or m' at 0) j ≡ 0 → digit x j ≡ 0
  pub other : (y : ℕ) → (y ≡ at → ⊥) → get_or m' y 0 ≡ get_or m y 0
