-- Whether a rank of the root is handed out: the checked back trace answers how many numbers it has, and none where it finds no derivation.
use mathlib.Core.Path.{◌≡◌, refl}
use mathlib.Core.Bool.{Bool, true, false}
use mathlib.Core.List.{List}
use Prim.Native.Nat.{ℕ}
use native.Mathlib.Omega.{arith}
use Rattle.std.specs.Prelude.{Option, Some, None}
use lib.ListN.{length}
use Rattle.bits.specs.Bits.{pick}
use Rattle.chart.specs.Chart.{root_trace, root_found}
use Rattle.open_answer.specs.Model.{hands_out, settled}
use Rattle.open_answer.specs.Answer as A
use Rattle.open_answer.specs.Answer.{Reading, NoMore, Refused}
use Rattle.open_answer.specs.declared.Plan.{Plan}

module _ (t rules edges : List ℕ) (p : Plan) (x : ℕ) where
  abbrev numbers : ℕ
  numbers = length (root_trace t rules p.layout x)

  abbrev Checked : Option ℕ → Type 0
  Checked r = r ≡ pick (hands_out t rules edges p x) (Some numbers) None

  pub spelled : (n : ℕ) → Checked (Some n) → (hands_out t rules edges p x ≡ true) × (n ≡ numbers)
  spelled n e = go (hands_out t rules edges p x) e
    where
      go : (b : Bool) → Some n ≡ pick b (Some numbers) None → (b ≡ true) × (n ≡ numbers)
      go true e = (refl, cc)
      go false e = let z : ◌≡◌ {A = ℕ} 0 1 = cc in absurd (omega arith)

  pub not_spelled : Checked None → hands_out t rules edges p x ≡ false
  not_spelled e = go (hands_out t rules edges p x) e
    where
      go : (b : Bool) → None ≡ pick b (Some numbers) None → b ≡ false
      go true e = let z : ◌≡◌ {A = ℕ} 0 1 = cc in absurd (omega arith)
      go false e = refl

  pub reads : hands_out t rules edges p x ≡ true → Reading ≡ settled t rules edges p x true
  unfolding settled
  reads e = rw e

  pub altered : hands_out t rules edges p x ≡ false → Refused 53 ≡ settled t rules edges p x true
  unfolding settled
  altered e = rw e

  -- what a call answers by whether the rank is found
  pub found_settled : {a : Bool} {r : A.CallAnswer} → a ≡ root_found t p.layout x → a ≡ true → r ≡ settled t rules edges p x true
      → r ≡ settled t rules edges p x (root_found t p.layout x)
  found_settled e₁ e₂ e₃ = rw (← e₁, e₂) e₃

  pub not_found_settled : {a : Bool} → a ≡ root_found t p.layout x → a ≡ false → NoMore ≡ settled t rules edges p x (root_found t p.layout x)
  unfolding settled
  not_found_settled e₁ e₂ = rw (← e₁, e₂)
