-- Seeds as numbers: the price plus 1, then rule and split. Both ranks of a seed are 0, so these decide its key.
-- Nobody need believe this page: proofs/Seeds joins it to the keys. Assumes nothing.
use Rattle.std.specs.Prelude.{ℕ, ◌+◌, ◌*◌, ◌/◌, ◌%◌, ◌<◌, ◌≤◌, ◌==◌}
use Rattle.bits.specs.Bits.{pick}
use Rattle.chart_keys.specs.declared.Key.{Key}
use Rattle.chart_keys.specs.Keys.{splits, split_unit, prices, key_of, key_number}

-- what one price counts for, and the number of a seed
abbrev pub price_unit : ℕ
price_unit = 8192

abbrev pub seed_number : ℕ → ℕ → ℕ → ℕ
seed_number price r j = price * price_unit + (r * splits + j)

-- keys that these numbers have room for: a back pointer has 29 bits
pub record InNumbers (k : Key) : Type 0 where
  pub price : k.price ≤ prices
  pub back : k.back < 536870912

-- the seeds above a floor have a number above its own, and those below a best so far one below its own
abbrev pub floor_number : Key → ℕ
floor_number k = k.price * price_unit + k.back / split_unit

abbrev pub ceiling_number : Key → ℕ
ceiling_number k = k.price * price_unit + (k.back + 65535) / split_unit

pub record Divides (floor best : Key) : Type 0 where
  pub floor_in : InNumbers floor
  pub best_in : InNumbers best
  pub apart : floor_number floor < ceiling_number best

-- the key that a number stands for, where it is that of a seed or the ceiling of a best so far
unfoldable pub key_of_number : Key → ℕ → ℕ
key_of_number best n = pick (n == ceiling_number best) (key_number best) (key_of (n / price_unit) (n % price_unit * split_unit))
