-- Seeds as numbers compare as their keys do. A number stands for a key (`keyOfNumber`), and to take the lesser of two numbers above a floor
-- is to take the lesser of the keys: rule and split are the upper digits of a seed's back pointer, whose lower ones are 0, so a back
-- pointer is below a seed's exactly if it is below it rounded down, and above it exactly if it is above it rounded up.
use Rattle.std.proofs.Common.{◌≡◌, ℕ, ◌+◌, ◌*◌, ◌/◌, ◌%◌, ◌<◌, ◌≤◌, Bool, true, false, ltb, sym, refl, ◌∙◌, arith, ltb-true, le-ltb, lt-ltb, eq-eqb, ne_eqb}
use native.Mathlib.Decide.{ℕ_discrete, dec_lt}
use Rattle.bits.specs.Bits.{pick}
use Rattle.chart_keys.specs.declared.Key.{Key}
use Rattle.chart_keys.specs.Keys.{splits, rules, split_unit, key_unit, key_of, key_number, back, back_number, lesser}
use Rattle.seed_numbers.specs.Seeds.{price_unit, seed_number, floor_number, ceiling_number, InNumbers, key_of_number}
use Rattle.chart_keys.proofs.Numbers.{same_price, other_price}

-- two comparisons that hold together have one answer
same_test : (a b c d : ℕ) → (a < b → c < d) → (b ≤ a → d ≤ c) → ltb a b ≡ ltb c d
same_test a b c d f g = go (dec_lt a b)
  where
    go : Dec (a < b) → ltb a b ≡ ltb c d
    go (yes l) = rw (lt-ltb a b l) (sym (lt-ltb c d (f l)))
    go (no l) = let le : b ≤ a = omega arith in rw (le-ltb a b le) (sym (le-ltb c d (g le)))

-- keys of prices p and q and back pointers x and y, and numbers of the same prices, compare alike where x and y compare as the
-- numbers' lower digits do
alike : (p q x y m n : ℕ) → x < key_unit → y < key_unit → m < price_unit → n ≤ price_unit → (x < y → m < n) → (y ≤ x → n ≤ m)
    → ltb (key_of p x) (key_of q y) ≡ ltb (p * price_unit + m) (q * price_unit + n)
alike p q x y m n hx hy hm hn f g = go (ℕ_discrete p q)
  where
    go : Dec (p ≡ q) → ltb (key_of p x) (key_of q y) ≡ ltb (p * price_unit + m) (q * price_unit + n)
    go (yes e) = sym (same_price key_unit p q x y e) ∙ same_test x y m n f g ∙ same_price price_unit p q m n e
    go (no e) = sym (other_price key_unit p q x y hx hy e) ∙ same_test p q (p * price_unit + m) (q * price_unit + n) (λ l. omega arith) (λ l. omega (arith, e))

module _ (p r j : ℕ) (small-rule : r < rules) (small-split : j < splits) where
  seed : ℕ
  seed = key_of p (back_number (back r j 0 0))

  -- above a floor, and below a best so far
  above_floor : (floor : Key) → InNumbers floor → ltb (key_number floor) seed ≡ ltb (floor_number floor) (seed_number p r j)
  unfolding seed
  above_floor floor h =
      alike floor.price p floor.back (back_number (back r j 0 0)) (floor.back / split_unit) (r * splits + j)
      (omega (arith, h.back)) (omega arith) (omega (arith, h.back)) (omega arith) (λ l. omega arith) (λ l. omega arith)

  below_ceiling : (best : Key) → InNumbers best → ltb seed (key_number best) ≡ ltb (seed_number p r j) (ceiling_number best)
  unfolding seed
  below_ceiling best h =
      alike p best.price (back_number (back r j 0 0)) best.back (r * splits + j) ((best.back + 65535) / split_unit)
      (omega arith) (omega (arith, h.back)) (omega arith) (omega (arith, h.back)) (λ l. omega arith) (λ l. omega arith)

  -- below another seed
  below_seed : (n : ℕ) → ltb seed (key_of (n / price_unit) (n % price_unit * split_unit)) ≡ ltb (seed_number p r j) n
  unfolding seed
  below_seed n =
      let e : n / price_unit * price_unit + n % price_unit ≡ n = omega arith in
      let a = alike p (n / price_unit) (back_number (back r j 0 0)) (n % price_unit * split_unit) (r * splits + j) (n % price_unit)
      (omega arith) (omega arith) (omega arith) (omega arith) (λ l. omega arith) (λ l. omega arith) in
      rw e at a

  module _ (floor best : Key) (floor_in : InNumbers floor) (best_in : InNumbers best) where
    -- a number below the ceiling stands for its own key
    own_key : seed_number p r j < ceiling_number best → key_of_number best (seed_number p r j) ≡ seed
    unfolding key_of_number seed
    own_key l =
        let q : (p * price_unit + (r * splits + j)) / price_unit ≡ p = omega arith in
        let m : (p * price_unit + (r * splits + j)) % price_unit * split_unit ≡ back_number (back r j 0 0) = omega arith in
        rw (ne_eqb (seed_number p r j) (ceiling_number best) (λ e. omega (arith, e)), q, m)

    below_key : (n : ℕ) → ltb seed (key_of_number best n) ≡ ltb (seed_number p r j) n
    unfolding key_of_number
    below_key n = go (ℕ_discrete n (ceiling_number best))
      where
        go : Dec (n ≡ ceiling_number best) → ltb seed (key_of_number best n) ≡ ltb (seed_number p r j) n
        go (yes e) = rw (eq-eqb n (ceiling_number best) e) (below_ceiling best best_in ∙ rw e)
        go (no e) = rw (ne_eqb n (ceiling_number best) e) (below_seed n)

    pub lesser_number : (n low : ℕ) → low ≡ floor_number floor → n ≤ ceiling_number best
        → key_of_number best (lesser low n (seed_number p r j)) ≡ lesser (key_number floor) (key_of_number best n) (key_of p (back_number (back r j 0 0)))
    unfolding lesser seed
    lesser_number n low is le = rw (is, above_floor floor floor_in, below_key n)
        (go (ltb (floor_number floor) (seed_number p r j)) (ltb (seed_number p r j) n) refl)
      where
        go : (b c : Bool) → ltb (seed_number p r j) n ≡ c
            → key_of_number best (pick b (pick c (seed_number p r j) n) n)
            ≡ pick b (pick c (key_of p (back_number (back r j 0 0))) (key_of_number best n)) (key_of_number best n)
        go true true e = own_key (omega (arith, ltb-true (seed_number p r j) n e))
        go true false e = refl
        go false c e = refl

-- the ceiling of a best so far stands for it
pub ceiling_key : (best : Key) (n : ℕ) → n ≡ ceiling_number best → key_of_number best n ≡ key_number best
unfolding key_of_number
ceiling_key best n e = rw (eq-eqb n (ceiling_number best) e)
