-- A price and a back pointer are the digits of a key, to a base above every back pointer: so keys compare by prices, and by back
-- pointers where those are equal, and the price decides whether it is a key.
use Rattle.std.proofs.Common.{◌≡◌, ℕ, ◌+◌, ◌-◌, ◌*◌, ◌<◌, ◌≤◌, Bool, true, false, eqb, ltb, sym, refl, mul-le-mul_right, arith, le-ltb, lt-ltb}
use native.Mathlib.Decide.{dec_lt}
use Rattle.bits.specs.Bits.{pick}
use Rattle.chart_keys.specs.Keys.{prices, part_price, join_price, lesser}

-- to any base
module _ (u : ℕ) where
  pub digits_below : (p q x y : ℕ) → x < u → p < q → p * u + x < q * u + y
  digits_below p q x y h l = omega (arith, mul-le-mul_right u l)

  pub digits_under : (p q x : ℕ) → p * u + x < q * u → p < q
  digits_under p q x h = go (dec_lt p q)
    where
      go : Dec (p < q) → p < q
      go (yes l) = l
      go (no l) = let le : q ≤ p = omega arith in absurd (omega (arith, mul-le-mul_right u le))

  pub same_price : (p q x y : ℕ) → p ≡ q → ltb x y ≡ ltb (p * u + x) (q * u + y)
  same_price p q x y e = rw e (go (q * u) (dec_lt x y))
    where
      go : (z : ℕ) → Dec (x < y) → ltb x y ≡ ltb (z + x) (z + y)
      go z (yes l) = rw (lt-ltb x y l) (sym (lt-ltb (z + x) (z + y) (omega arith)))
      go z (no l) = rw (le-ltb x y (omega arith)) (sym (le-ltb (z + x) (z + y) (omega arith)))

  pub other_price : (p q x y : ℕ) → x < u → y < u → (p ≡ q → ⊥) → ltb p q ≡ ltb (p * u + x) (q * u + y)
  other_price p q x y hx hy other = go (dec_lt p q)
    where
      go : Dec (p < q) → ltb p q ≡ ltb (p * u + x) (q * u + y)
      go (yes l) = rw (lt-ltb p q l) (sym (lt-ltb (p * u + x) (q * u + y) (digits_below p q x y hx l)))
      go (no l) =
          let more : q < p = omega (arith, other) in
          rw (le-ltb p q (omega arith)) (sym (le-ltb (p * u + x) (q * u + y) (omega (arith, digits_below q p y x hy more))))

  pub some_price : (p q x : ℕ) → x < u → ltb p q ≡ ltb (p * u + x) (q * u)
  some_price p q x h = go (dec_lt p q)
    where
      go : Dec (p < q) → ltb p q ≡ ltb (p * u + x) (q * u)
      go (yes l) = rw (lt-ltb p q l) (sym (lt-ltb (p * u + x) (q * u) (omega (arith, digits_below p q x 0 h l))))
      go (no l) = let le : q ≤ p = omega arith in rw (le-ltb p q le) (sym (le-ltb (p * u + x) (q * u) (omega (arith, mul-le-mul_right u le))))

-- what is not below the best is not taken
pub lesser_best : (floor best key : ℕ) → ltb key best ≡ false → best ≡ lesser floor best key
unfolding lesser
lesser_best floor best key e = rw e (go (ltb floor key))
  where
    go : (b : Bool) → best ≡ pick b best best
    go true = refl
    go false = refl

-- the price of a part is below 2 ^ 43, and with a rule's weight that of two stays below 2 ^ 45
pub part_small : (x : ℕ) → x < prices → part_price x < prices
unfolding part_price
part_small x h = go (eqb x 0)
  where
    go : (b : Bool) → pick b 8796093022207 (x - 1) < prices
    go true = omega arith
    go false = omega arith

pub join_small : (w left right : ℕ) → w ≤ 65535 → left < prices → right < prices → join_price w left right < 35184372088832
unfolding join_price
join_small w left right hw hl hr = omega (arith, part_small left hl, part_small right hr)
