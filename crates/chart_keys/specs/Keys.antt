-- Back pointers, prices and keys: how a tree of a cell was made, what it costs, and a tree as one number, so that the lesser comes
-- first in the order.
-- Nobody need believe this page: the theorems of chart_theory join it to the derivations. Assumes nothing.
use Rattle.std.specs.Prelude.{ℕ, ◌+◌, ◌-◌, ◌*◌, ◌/◌, ◌%◌, ◌<◌, ◌==◌, nat_lt}
use Rattle.bits.specs.Width.{u32_values}
use Rattle.bits.specs.Bits.{pick}
use Rattle.chart_keys.specs.declared.BackPointer.{BackPointer}
use Rattle.chart_keys.specs.declared.Key.{Key}

-- the bases of a back pointer's digits: a split is below `splits`, and a rank or an edge below `digits`
abbrev pub splits : ℕ
splits = 32

abbrev pub digits : ℕ
digits = 256

-- the rules that a grammar may have
abbrev pub rules : ℕ
rules = 256

-- what one split and one rule count for in a back pointer's number, and one unit of weight in a price
abbrev pub split_unit : ℕ
split_unit = 65536

abbrev pub rule_unit : ℕ
rule_unit = 2097152

abbrev pub weight_unit : ℕ
weight_unit = 1572864

-- a back pointer: rule, split, and the ranks of the parts; of a leaf the rule, 0, the edge, 0
abbrev pub back : ℕ → ℕ → ℕ → ℕ → BackPointer
back r j p q = record { rule = r; split = j; left = p; right = q }

-- with other ranks
abbrev pub with_ranks : BackPointer → ℕ → ℕ → BackPointer
with_ranks b p q = back b.rule b.split p q

-- as a number, and the back pointer that a number stands for
abbrev pub back_number : BackPointer → ℕ
back_number b = ((b.rule * splits + b.split) * digits + b.left) * digits + b.right

abbrev pub rule_digit : ℕ → ℕ
rule_digit x = x / rule_unit

abbrev pub split_digit : ℕ → ℕ
split_digit x = x / split_unit % splits

abbrev pub left_digit : ℕ → ℕ
left_digit x = x / digits % digits

abbrev pub right_digit : ℕ → ℕ
right_digit x = x % digits

abbrev pub back_pointer : ℕ → BackPointer
back_pointer x = back (rule_digit x) (split_digit x) (left_digit x) (right_digit x)

-- what its numbers are bounded by
pub record Digits (b : BackPointer) : Type 0 where
  pub rule : b.rule < u32_values
  pub split : b.split < splits
  pub left : b.left < digits
  pub right : b.right < digits

-- prices plus 1 are below `prices`: 2 ^ 43. A part that is missing has the price 2 ^ 43 - 1
abbrev pub prices : ℕ
prices = 8796093022208

unfoldable pub part_price : ℕ → ℕ
part_price x = pick (x == 0) 8796093022207 (x - 1)

-- a price plus 1: of a leaf, from its rule's weight and its word's cost, and of two parts, from their prices plus 1
abbrev pub leaf_price : ℕ → ℕ → ℕ
leaf_price w cost = (w + cost) * weight_unit + cost + 1

unfoldable pub join_price : ℕ → ℕ → ℕ → ℕ
join_price w left right = w * weight_unit + part_price left + part_price right + 1

-- a key: the price plus 1, then the back pointer, to a base that is above every number of 64 bits. No key of a found tree
-- reaches `noKey`
abbrev pub key_unit : ℕ
key_unit = 18446744073709551616

abbrev pub key_of : ℕ → ℕ → ℕ
key_of p x = p * key_unit + x

abbrev pub key_number : Key → ℕ
key_number k = key_of k.price k.back

abbrev pub no_key : ℕ
no_key = prices * key_unit

-- the lesser of the best and a key above the floor
unfoldable pub lesser : ℕ → ℕ → ℕ → ℕ
lesser floor best key = pick (nat_lt floor key) (pick (nat_lt key best) key best) best
