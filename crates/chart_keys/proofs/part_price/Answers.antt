-- A number minus 1 stays below 2 ^ 43, and a 0 wraps round to 2 ^ 64 - 1, whose lower 43 bits are all ones.
use Rattle.std.proofs.Common.{◌≡◌, ℕ, ◌+◌, ◌%◌, ◌^◌, ◌<◌, arith, rules, eq-eqb, ne_eqb}
use native.Mathlib.Decide.{ℕ_discrete}
use Rattle.chart_keys.specs.Keys.{prices, part_price}
use Rattle.chart_keys.proofs.part_price.Goals as goal

wraps : (x r : ℕ) → x < prices → r < 2 ^ 64 → (r + 1) % 2 ^ 64 ≡ x → r % prices ≡ part_price x
unfolding part_price
wraps x r small fits e = go (ℕ_discrete x 0)
  where
    go : Dec (x ≡ 0) → r % prices ≡ part_price x
    go (yes z) = rw (eq-eqb x 0 z) (omega arith)
    go (no z) = rw (ne_eqb x 0 z) (omega (arith, z))

pub returns : goal.returns
returns c = (wraps _ _ c.requires c.wrapping_sub_usize.type_inv c.wrapping_sub_usize.ensures.value, search rules)
