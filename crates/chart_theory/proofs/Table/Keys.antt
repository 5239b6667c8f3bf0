-- A key is one number that compares as its row does: the weight, the sum of costs and the four numbers of the back pointer are its
-- digits, and digits that stay below their bounds compare one after another. So a key is of one row, and a back pointer is taken out of
-- its number.
use mathlib.Core.Path.{◌≡◌, refl, sym, ◌∙◌}
use Prim.Native.Nat.compare
use Prim.Native.Nat.{ℕ, ◌+◌, ◌*◌, ◌/◌, ◌%◌, ◌<◌, compare, Ordering}
use native.Mathlib.Nat.{mul-le-mul_right}
use native.Mathlib.Numerals.{add-one}
use native.Mathlib.Omega.{arith}
use lib.Arith.{digits_div, digits_mod}
use Rattle.derivation.specs.Order.{◌▸◌}
use Rattle.derivation.proofs.Comparison.{compare_lawful, compare_self, compare_same, compare_lt, compare_gt, compare_below, turn_gt}
use Rattle.derivation.proofs.Rows.{Price, price, weight_in, costs_in, Row, row, row_price, row_order, row_same}
use Rattle.chart_keys.specs.declared.BackPointer.{BackPointer}
use Rattle.chart_keys.specs.Keys.{weight_unit, back, back_number, rule_digit, split_digit, left_digit}
use Rattle.chart_keys.specs.Keys.{right_digit, back_pointer, prices, key_unit, key_of, no_key}
use Rattle.chart_keys.proofs.Numbers.{digits_below}

-- a price as one number
abbrev pub price_number : Price → ℕ
price_number v = weight_in v * weight_unit + costs_in v

abbrev pub row_number : Row → ℕ
row_number v = price_number (row_price v)

-- the back pointer of a row, and its key
abbrev pub row_back : Row → BackPointer
row_back (row w r j p q) = back r j p q

abbrev pub row_key : Row → ℕ
row_key v = key_of (row_number v + 1) (back_number (row_back v))

-- a key has room for the numbers of a back pointer
pub record HasKey (b : BackPointer) : Type 0 where
  pub rule : b.rule < 256
  pub split : b.split < 32
  pub left : b.left < 256
  pub right : b.right < 256

-- and for a row whose sum of costs is below what a unit of weight counts for
pub record RowFits (v : Row) : Type 0 where
  pub has_key : HasKey (row_back v)
  pub cheap : costs_in (row_price v) < weight_unit

-- digits compare as the number that they make
▸-assoc : (a b c : Ordering) → (a ▸ b) ▸ c ≡ a ▸ b ▸ c
unfolding ◌▸◌
▸-assoc Ordering.lt b c = refl
▸-assoc Ordering.eq b c = refl
▸-assoc Ordering.gt b c = refl

compare_shift : (z x y : ℕ) → compare (z + x) (z + y) ≡ compare x y
compare_shift z x y = go (compare x y) refl
  where
    go : (o : Ordering) → compare x y ≡ o → compare (z + x) (z + y) ≡ compare x y
    go Ordering.lt e = compare_lt (z + x) (z + y) (omega (arith, compare_below x y e)) ∙ sym e
    go Ordering.eq e = rw (compare_same x y e) (compare_self (z + y) ∙ sym (compare_self y))
    go Ordering.gt e = compare_gt (z + x) (z + y) (omega (arith, compare_below y x (turn_gt compare_lawful x y e))) ∙ sym e

compare_digits : (m x y x' y' : ℕ) → y < m → y' < m → compare (x * m + y) (x' * m + y') ≡ compare x x' ▸ compare y y'
unfolding ◌▸◌
compare_digits m x y x' y' h h' = go (compare x x') refl
  where
    less : (a b c d : ℕ) → c < m → a < b → a * m + c < b * m + d
    less a b c d k l = omega (arith, mul-le-mul_right m l)

    go : (o : Ordering) → compare x x' ≡ o → compare (x * m + y) (x' * m + y') ≡ compare x x' ▸ compare y y'
    go Ordering.lt e = rw e (compare_lt (x * m + y) (x' * m + y') (less x x' y y' h (compare_below x x' e)))
    go Ordering.eq e = rw (compare_same x x' e, compare_self x') (compare_shift (x' * m) y y')
    go Ordering.gt e =
        rw e (compare_gt (x * m + y) (x' * m + y') (less x' x y' y h' (compare_below x' x (turn_gt compare_lawful x x' e))))

module _ (b : BackPointer) (fits : HasKey b) where
  pub back_below : back_number b < 536870912
  back_below = omega (arith, fits.rule, fits.split, fits.left, fits.right)

  back_small : back_number b < key_unit
  back_small = omega (arith, back_below)

  -- its digits are taken out of its number
  pub decoded : back_pointer (back_number b) ≡ b
  decoded = rw (rule_is, split_is, left_is, right_is)
    where
      rule_is : rule_digit (back_number b) ≡ b.rule
      rule_is = omega (arith, fits.rule, fits.split, fits.left, fits.right)

      split_is : split_digit (back_number b) ≡ b.split
      split_is = omega (arith, fits.rule, fits.split, fits.left, fits.right)

      left_is : left_digit (back_number b) ≡ b.left
      left_is = omega (arith, fits.rule, fits.split, fits.left, fits.right)

      right_is : right_digit (back_number b) ≡ b.right
      right_is = omega (arith, fits.right)

-- the price and the back pointer of a key
pub key_price : (v : Row) → RowFits v → row_key v / key_unit ≡ row_number v + 1
key_price v fits = digits_div (row_number v + 1) {m = key_unit} {r = back_number (row_back v)} (back_small (row_back v) fits.has_key)

pub key_mod : (v : Row) → RowFits v → row_key v % key_unit ≡ back_number (row_back v)
key_mod v fits = digits_mod (row_number v + 1) {m = key_unit} {r = back_number (row_back v)} (back_small (row_back v) fits.has_key)

pub key_back : (v : Row) → RowFits v → row_key v % key_unit % 4294967296 ≡ back_number (row_back v)
key_back v fits =
    rw (key_mod v fits)
    (omega (arith, back_below (row_back v) fits.has_key))

-- the central fact
key_order : (v v' : Row) → RowFits v → RowFits v' → compare (row_key v) (row_key v') ≡ row_order v v'
unfolding row_order
key_order (row (price w s) r j p q) (row (price w' s') r' j' p' q') fits fits' =
    let f = fits.has_key in
    let f' = fits'.has_key in
    compare_digits key_unit (w * weight_unit + s + 1) (back_number (back r j p q)) (w' * weight_unit + s' + 1) (back_number (back r' j' p' q'))
    (back_small (back r j p q) f) (back_small (back r' j' p' q') f')
    ∙ rw (
      add-one (w * weight_unit + s),
      add-one (w' * weight_unit + s'),
      compare.suc-suc (w * weight_unit + s) (w' * weight_unit + s'),
      compare_digits weight_unit w s w' s' fits.cheap fits'.cheap,
      compare_digits 256 ((r * 32 + j) * 256 + p) q ((r' * 32 + j') * 256 + p') q' f.right f'.right,
      compare_digits 256 (r * 32 + j) p (r' * 32 + j') p' f.left f'.left,
      compare_digits 32 r j r' j' f.split f'.split,
      ▸-assoc (compare w w') (compare s s') (((compare r r' ▸ compare j j') ▸ compare p p') ▸ compare q q'),
      ▸-assoc (compare r r' ▸ compare j j') (compare p p') (compare q q'),
      ▸-assoc (compare r r') (compare j j') (compare p p' ▸ compare q q'),
    )

pub order_key : (v v' : Row) → RowFits v → RowFits v' → row_order v v' ≡ Ordering.lt → row_key v < row_key v'
order_key v v' f f' e = compare_below (row_key v) (row_key v') (key_order v v' f f' ∙ e)

pub key_lt : (v v' : Row) → RowFits v → RowFits v' → row_key v < row_key v' → row_order v v' ≡ Ordering.lt
key_lt v v' f f' h = sym (key_order v v' f f') ∙ compare_lt (row_key v) (row_key v') h

-- a key of a weight below 5,592,405 is one
pub key_some : (v : Row) → RowFits v → weight_in (row_price v) < 5592405 → row_key v < no_key
key_some v f h =
    let less : row_number v + 1 < prices = omega (arith, f.cheap) in
    omega (arith, digits_below key_unit (row_number v + 1) prices (back_number (row_back v)) 0 (back_small (row_back v) f.has_key) less)

-- a key is of one row
pub key_injective : (v v' : Row) → RowFits v → RowFits v' → row_key v ≡ row_key v' → v ≡ v'
key_injective v v' f f' e = row_same v v' (sym (key_order v v' f f') ∙ rw e (compare_self (row_key v')))
