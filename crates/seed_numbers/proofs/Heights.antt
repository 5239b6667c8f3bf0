-- The height of a key above a floor: of height h is the key h + floor + 1, and heights are taken modulo 2 ^ 64. A key that is
-- not above the floor has a height of at least 2 ^ 64 - (floor + 1), so no other key's height is greater.
use Rattle.std.proofs.Common.{◌≡◌, ℕ, ◌+◌, ◌%◌, ◌^◌, ◌<◌, ◌≤◌, Bool, true, false, min, ltb, refl, arith, ltb-true, le-ltb, lt-ltb}
use Rattle.std.proofs.lemmas.Bool.{cases_lt}
use mathlib.Core.Logic.{⊎_elim}
use Rattle.bits.specs.Bits.{pick}
use Rattle.chart_keys.specs.Keys.{lesser}

module _ (floor best key height : ℕ) (fits : best + (floor + 1) < 2 ^ 64) (wraps : (height + (floor + 1)) % 2 ^ 64 ≡ key) where
  pub lower : height < best → height + (floor + 1) ≡ lesser floor (best + (floor + 1)) key
  unfolding lesser
  lower h =
      let e : height + (floor + 1) ≡ key = omega arith in
      rw (lt-ltb floor key (omega arith), lt-ltb key (best + (floor + 1)) (omega arith)) e

  pub not_lower : height < 2 ^ 64 → best ≤ height → best + (floor + 1) ≡ lesser floor (best + (floor + 1)) key
  unfolding lesser
  not_lower small h = by_test (ltb floor key) refl
    where
      by_test : (b : Bool) → ltb floor key ≡ b
          → best + (floor + 1) ≡ pick b (pick (ltb key (best + (floor + 1))) key (best + (floor + 1))) (best + (floor + 1))
      by_test true e = rw (le-ltb key (best + (floor + 1)) (omega (arith, ltb-true floor key e)))
      by_test false e = refl

  -- and so the lesser of two heights is that of the lesser key
  pub least_height : height < 2 ^ 64 → min height best + (floor + 1) ≡ lesser floor (best + (floor + 1)) key
  least_height small =
      ⊎_elim (λ l. let e : min height best ≡ height = omega arith in rw e (lower l))
      (λ g. let e : min height best ≡ best = omega arith in rw e (not_lower small g)) (cases_lt height best)
