-- The float product of m shares differs from the exact one by at most m parts in 2 ^ 52: a factor is exact, no product is subnormal or too
-- great, since each is from 2 ^ -471 to 2, and so each rounding is off by at most one part in 2 ^ 53.
use mathlib.Core.Path.{◌≡◌, refl, sym, ap, ◌∙◌, subst}
use mathlib.Core.Bool.{true, false, not, true≢false}
use mathlib.Core.List.{List, [], ◌∷◌}
use Prim.Native.Nat.{ℕ, zero, suc, ◌+◌, ◌-◌, ◌*◌, ◌/◌, ◌%◌, ◌^◌, ◌<◌, ◌≤◌, compare, Ordering}
use native.Mathlib.Nat.{
  add-zero,
  add_assoc,
  le_trans,
  le_of_eq,
  lt_of_lt_of_le,
  lt_of_le_of_lt,
  add-mul,
  suc-mul,
  mul-suc,
  zero-add,
  mul-one,
  one-mul,
  mul-pos,
  mul_assoc,
  mul_comm,
  mul_left_comm,
  mul_right_comm,
  mul-le-mul_right,
  mul-le-mul_left,
  mul-le-mul,
  le_of_mul-le-mul_right,
  mod-lt,
  div-add-mod',
  div-mul-le_self,
}
use native.Mathlib.Omega.{arith}
use lib.Dec.{T, is_le, compare_is_eq, eqb, leb→le, nleb→lt, eqb→eq, eqb_refl, lit<, lit≤}
use lib.Arith.{lt_of_le-ne}
use lib.Pow.{pow_pos, pow_mono, pow-add}
use lib.ListN.{length}
use lib.IntN.{pos}
use lib.Ieee.{Float, nan, inf, fin, up, down, binary64, low, size, nearest, round, mul, div}
use lib.Ieee.Fits.{down_pos}
use lib.Ieee.Digits.{size_reaches}
use lib.Ieee.Exact.{HasValue, round_exact}
use lib.Ieee.Nearest.{closest}
use lib.Ieee.Order.{drop, kept}
use lib.Ieee.Scale.{grid, round_val, round_same, normal_of_fraction}
use lib.Ieee.Positive.{positive_of_value, first_pos, mul_at}
use Rattle.derivation.proofs.Ranges.{All}
use Rattle.chance.specs.Chance.{one, factor_of, product_of, exact_of, apart, Near}

abbrev pub Share : ℕ → Type 0
Share s = (1 ≤ s) × (s ≤ 1024)

-- what `compare` says (as in lib.Ieee.Nearest, where it is private)
abbrev Cmp : Ordering → ℕ → ℕ → Type 0
Cmp Ordering.lt a b = a < b
Cmp Ordering.eq a b = a ≡ b
Cmp Ordering.gt a b = b < a

cmp : (a b : ℕ) → Cmp (compare a b) a b
cmp a b = go (compare a b) (leb→le a b) (nleb→lt a b) (eqb→eq a b) (λ (e : a ≡ b). subst (λ (x : ℕ). T (eqb a x)) e (eqb_refl a))
  where
    go : (o : Ordering) → (T (is_le o) → a ≤ b) → (T (not (is_le o)) → b < a) → (T (compare_is_eq o) → a ≡ b) → (a ≡ b → T (compare_is_eq o)) → Cmp o a b
    go Ordering.lt h k e n = lt_of_le-ne (h tt) n
    go Ordering.eq h k e n = e tt
    go Ordering.gt h k e n = k tt

-- the nearest whole number is off by half the divisor at most
abbrev Half : ℕ → ℕ → ℕ → Type 0
Half x b a = (x * b * 2 ≤ a * 2 + b) × (a * 2 ≤ x * b * 2 + b)

tie : (q k b a r : ℕ) → k < 2 → q * b + r ≡ a → r * 2 ≡ b → Half (q + k) b a
tie q zero b a r l e h = let z : (q + 0) * b ≡ q * b + 0 * b = add-mul q 0 b in omega arith
tie q (suc zero) b a r l e h = let z : (q + 1) * b ≡ q * b + 1 * b = add-mul q 1 b in omega arith
tie q (suc (suc k)) b a r l e h = absurd (omega arith)

half : (q : ℕ) (o : Ordering) (r b a : ℕ) → q * b + r ≡ a → r < b → Cmp o (r * 2) b → Half (nearest q o) b a
half q Ordering.lt r b a e l c = omega arith
half q Ordering.eq r b a e l c = tie q (q % 2) b a r (mod-lt q (lit< tt)) e c
half q Ordering.gt r b a e l c = let z : suc q * b ≡ q * b + b = suc-mul q b in omega arith

closest_half : (a b : ℕ) → 0 < b → Half (closest a b) b a
closest_half a b B = half (a / b) (compare (a % b * 2) b) (a % b) b a (div-add-mod' a b) (mod-lt a B) (cmp (a % b * 2) b)

-- one rounding, in the normal range: off by at most one part in 2 ^ 53
linear : (x u n : ℕ) → (x * 2 ≤ n * 2 + u) × (n * 2 ≤ x * 2 + u) → u * 2 ^ 52 ≤ n → (x * 2 ^ 53 ≤ n * 2 ^ 53 + n) × (n * 2 ^ 53 ≤ x * 2 ^ 53 + n)
linear x u n h k = omega arith

more_than : (z : ℕ) → 53 ≤ z → 52 + (z - 53) < z
more_than z h = omega arith

round_err : (a c L : ℕ) → 0 < c → L ≡ 2 ^ low binary64 → 53 ≤ size (a * 2 ^ low binary64 / c)
    → (grid binary64 a c * c * 2 ^ 53 ≤ a * L * 2 ^ 53 + a * L) × (a * L * 2 ^ 53 ≤ grid binary64 a c * c * 2 ^ 53 + a * L)
round_err a c L C e N =
    subst (λ (l : ℕ). (grid binary64 a c * c * 2 ^ 53 ≤ a * l * 2 ^ 53 + a * l) × (a * l * 2 ^ 53 ≤ grid binary64 a c * c * 2 ^ 53 + a * l)) (sym e)
    (at (a * 2 ^ low binary64) N)
  where
    at : (n : ℕ) → 53 ≤ size (n / c) → (kept 53 n c * 2 ^ drop 53 n c * c * 2 ^ 53 ≤ n * 2 ^ 53 + n)
        × (n * 2 ^ 53 ≤ kept 53 n c * 2 ^ drop 53 n c * c * 2 ^ 53 + n)
    at n N =
        let k = drop 53 n c in
        let u = c * 2 ^ k in
        let same : kept 53 n c * 2 ^ k * c ≡ kept 53 n c * u = simp (mul_assoc, mul_comm, mul_left_comm) in
        let reach : 2 ^ (52 + k) ≤ n / c = size_reaches (n / c) (52 + k) (more_than (size (n / c)) N) in
        let unit : u * 2 ^ 52 ≤ n =
        le_trans (le_of_eq (mul_assoc c (2 ^ k) (2 ^ 52) ∙ mul_comm c (2 ^ k * 2 ^ 52)
        ∙ ap (λ (z : ℕ). z * c) (mul_comm (2 ^ k) (2 ^ 52) ∙ sym (pow-add 2 52 k))))
        (le_trans (mul-le-mul_right c reach) (div-mul-le_self n c)) in
        subst (λ (z : ℕ). (z * 2 ^ 53 ≤ n * 2 ^ 53 + n) × (n * 2 ^ 53 ≤ z * 2 ^ 53 + n)) (sym same)
        (linear (kept 53 n c * u) u n (closest_half n u (mul-pos C (pow_pos k))) unit)

-- a factor is exact
pub factor_val : (s : ℕ) → Share s → HasValue (factor_of s) false s 1024
unfolding factor_of
factor_val s h =
    round_exact binary64 false s 1024 s 1064 (lit< tt) (omega (arith, h)) (lt_of_le_of_lt (mul-le-mul_right (2 ^ 1064) h.1) (lit< tt))
    (sym (mul_assoc s (2 ^ 1064) 1024))

-- what the float x of m factors is to the exact product P of their shares: x is a / c, and a / c * 2 ^ (10 m) is within m parts in 2 ^ 52
-- of P, from above and from under
record Close (x : Float) (m P : ℕ) : Type 0 where
  a : ℕ
  c : ℕ
  c_pos : 0 < c
  value : HasValue x false a c
  above : a * 2 ^ (10 * m) * 2 ^ 52 ≤ P * c * 2 ^ 52 + P * c * m
  under : P * c * 2 ^ 52 ≤ a * 2 ^ (10 * m) * 2 ^ 52 + P * c * m

-- one step, with the products as unknowns: A is the new value, Y the one before it, B the exact one, D is B times m
hi : (A Y B D : ℕ) → A * 2 ^ 53 ≤ Y * 2 ^ 53 + Y → Y * 2 ^ 52 ≤ B * 2 ^ 52 + D → D ≤ B * 2 ^ 52 → A * 2 ^ 52 ≤ B * 2 ^ 52 + D + B
hi A Y B D h k l = omega arith

twice : (Y B D : ℕ) → Y * 2 ^ 52 ≤ B * 2 ^ 52 + D → D ≤ B * 2 ^ 52 → Y ≤ B * 2
twice Y B D l d = omega arith

halve : (A Y B : ℕ) → Y * 2 ^ 53 ≤ A * 2 ^ 53 + Y → Y ≤ B * 2 → Y * 2 ^ 52 ≤ A * 2 ^ 52 + B
halve A Y B h t = omega arith

chain : (x y a d b : ℕ) → x ≤ y + d → y ≤ a + b → x ≤ a + d + b
chain x y a d b h k = omega arith

lo : (A Y B D : ℕ) → Y * 2 ^ 53 ≤ A * 2 ^ 53 + Y → B * 2 ^ 52 ≤ Y * 2 ^ 52 + D → Y * 2 ^ 52 ≤ B * 2 ^ 52 + D → D ≤ B * 2 ^ 52 → B * 2 ^ 52 ≤ A * 2 ^ 52 + D + B
lo A Y B D h k l d = chain (B * 2 ^ 52) (Y * 2 ^ 52) (A * 2 ^ 52) D B k (halve A Y B h (twice Y B D l d))

-- the bounds after one more factor s / 1024: E is 2 ^ (10 m), L the unit's inverse, g the rounded product in units
module _ (a c g s P m E L : ℕ) (C : 0 < c) (small : m ≤ 2 ^ 52)
    (above : a * E * 2 ^ 52 ≤ P * c * 2 ^ 52 + P * c * m) (under : P * c * 2 ^ 52 ≤ a * E * 2 ^ 52 + P * c * m)
    (err : (g * (c * 1024) * 2 ^ 53 ≤ a * s * L * 2 ^ 53 + a * s * L) × (a * s * L * 2 ^ 53 ≤ g * (c * 1024) * 2 ^ 53 + a * s * L)) where
  abbrev A : ℕ
  A = g * (E * 1024) * c

  abbrev Y : ℕ
  Y = a * s * L * E

  abbrev B : ℕ
  B = P * s * L * c

  -- both sides of a bound, times k
  times : (x y z k : ℕ) → x ≤ y + z → x * k ≤ y * k + z * k
  times x y z k h = le_trans (mul-le-mul_right k h) (le_of_eq (add-mul y z k))

  errs : (A * 2 ^ 53 ≤ Y * 2 ^ 53 + Y) × (Y * 2 ^ 53 ≤ A * 2 ^ 53 + Y)
  errs =
      let p : g * (c * 1024) * 2 ^ 53 * E ≡ A * 2 ^ 53 = simp (mul_assoc, mul_comm, mul_left_comm) in
      let q : a * s * L * 2 ^ 53 * E ≡ Y * 2 ^ 53 = simp (mul_assoc, mul_comm, mul_left_comm) in
      let h = times _ _ _ E err.0 in
      let k = times _ _ _ E err.1 in
      omega arith

  olds : (Y * 2 ^ 52 ≤ B * 2 ^ 52 + B * m) × (B * 2 ^ 52 ≤ Y * 2 ^ 52 + B * m)
  olds =
      let p : a * E * 2 ^ 52 * (s * L) ≡ Y * 2 ^ 52 = simp (mul_assoc, mul_comm, mul_left_comm) in
      let q : P * c * 2 ^ 52 * (s * L) ≡ B * 2 ^ 52 = simp (mul_assoc, mul_comm, mul_left_comm) in
      let r : P * c * m * (s * L) ≡ B * m = simp (mul_assoc, mul_comm, mul_left_comm) in
      let h = times _ _ _ (s * L) above in
      let k = times _ _ _ (s * L) under in
      omega arith

  few : B * m ≤ B * 2 ^ 52
  few = mul-le-mul_left B small

  -- the common factor c goes
  out : (x y z w : ℕ) → x * c ≤ y * c + z * c + w * c → x ≤ y + (z + w)
  out x y z w h = le_of_mul-le-mul_right (le_trans h
      (le_of_eq (sym (add-mul y (z + w) c ∙ ap (λ (n : ℕ). y * c + n) (add-mul z w c) ∙ sym (add_assoc (y * c) (z * c) (w * c)))))) C

  new_above : g * (E * 1024) * 2 ^ 52 ≤ P * s * L * 2 ^ 52 + P * s * L * suc m
  new_above =
      let Q = P * s * L in
      let h = hi A Y B (B * m) errs.0 olds.0 few in
      let p : g * (E * 1024) * 2 ^ 52 * c ≡ A * 2 ^ 52 = simp (mul_assoc, mul_comm, mul_left_comm) in
      let q : Q * 2 ^ 52 * c ≡ B * 2 ^ 52 = mul_right_comm Q (2 ^ 52) c in
      let r : Q * m * c ≡ B * m = mul_right_comm Q m c in
      le_trans (out (g * (E * 1024) * 2 ^ 52) (Q * 2 ^ 52) (Q * m) Q (omega arith)) (le_of_eq (ap (λ (n : ℕ). Q * 2 ^ 52 + n) (sym (mul-suc Q m))))

  new_under : P * s * L * 2 ^ 52 ≤ g * (E * 1024) * 2 ^ 52 + P * s * L * suc m
  new_under =
      let Q = P * s * L in
      let h = lo A Y B (B * m) errs.1 olds.1 olds.0 few in
      let p : g * (E * 1024) * 2 ^ 52 * c ≡ A * 2 ^ 52 = simp (mul_assoc, mul_comm, mul_left_comm) in
      let q : Q * 2 ^ 52 * c ≡ B * 2 ^ 52 = mul_right_comm Q (2 ^ 52) c in
      let r : Q * m * c ≡ B * m = mul_right_comm Q m c in
      le_trans (out (Q * 2 ^ 52) (g * (E * 1024) * 2 ^ 52) (Q * m) Q (omega arith)) (le_of_eq (ap (λ (n : ℕ). g * (E * 1024) * 2 ^ 52 + n) (sym (mul-suc Q m))))

-- the range: x is from 2 ^ -471 to 2, so nothing is subnormal and nothing overflows
reach : (Q X D : ℕ) → Q * 2 ^ 52 ≤ X * 2 ^ 52 + D → D ≤ Q * 47 → Q ≤ X * 2
reach Q X D h d = omega arith

keep : (Q X D : ℕ) → X * 2 ^ 52 ≤ Q * 2 ^ 52 + D → D ≤ Q * 47 → X ≤ Q * 2
keep Q X D h d = omega arith

at_most_2 : (g u n : ℕ) → g * u * 2 ^ 53 ≤ n * 2 ^ 53 + n → g * u ≤ n * 2
at_most_2 g u n h = omega arith

tens : (m : ℕ) → 2 ^ (10 * suc m) ≡ 2 ^ (10 * m) * 1024
tens m = ap (λ (n : ℕ). 2 ^ n) (mul-suc 10 m) ∙ pow-add 2 (10 * m) 10

module _ (x : Float) (s m P : ℕ) (sh : Share s) (few47 : m < 47) (P_pos : 0 < P) (P-le : P ≤ 2 ^ (10 * m)) (k : Close x m P) where
  abbrev a : ℕ
  a = k.a

  abbrev c : ℕ
  c = k.c

  abbrev E : ℕ
  E = 2 ^ (10 * m)

  abbrev L : ℕ
  L = 2 ^ low binary64

  parts : P * c * m ≤ P * c * 47
  parts = mul-le-mul_left (P * c) (omega arith)

  c_le : c ≤ a * 2 ^ 471
  c_le =
      le_trans (le_trans (le_of_eq (sym (one-mul c))) (mul-le-mul_right c P_pos))
      (le_trans (reach (P * c) (a * E) (P * c * m) k.under parts)
      (le_trans (le_of_eq (mul_assoc a E 2)) (mul-le-mul_left a (mul-le-mul_right 2 (pow_mono {i = 10 * m} {j = 470} (omega arith))))))

  a_le : a ≤ c * 2
  a_le =
      le_of_mul-le-mul_right {k = E}
      (le_trans (keep (P * c) (a * E) (P * c * m) k.above parts)
      (le_trans (mul-le-mul_right 2 (mul-le-mul_right c P-le)) (le_of_eq (simp (mul_assoc, mul_comm, mul_left_comm))))) (pow_pos (10 * m))

  a_pos : 0 < a
  a_pos = first_pos a (2 ^ 471) (lt_of_lt_of_le k.c_pos c_le)

  u_pos : 0 < c * 1024
  u_pos = mul-pos k.c_pos (lit< tt)

  normal : 53 ≤ size (a * s * L / (c * 1024))
  normal =
      normal_of_fraction binary64 (a * s) (c * 1024) u_pos
      (le_trans (le_of_eq (mul_left_comm (2 ^ 52) c 1024))
      (le_trans (mul-le-mul_right (2 ^ 62) c_le)
      (le_trans (le_of_eq (mul_assoc a (2 ^ 471) (2 ^ 62)))
      (mul-le-mul (le_trans (le_of_eq (sym (mul-one a))) (mul-le-mul_left a sh.0)) (lit≤ tt)))))

  g : ℕ
  g = grid binary64 (a * s) (c * 1024)

  err : (g * (c * 1024) * 2 ^ 53 ≤ a * s * L * 2 ^ 53 + a * s * L) × (a * s * L * 2 ^ 53 ≤ g * (c * 1024) * 2 ^ 53 + a * s * L)
  unfolding g
  err = round_err (a * s) (c * 1024) L u_pos refl normal

  g_le : g ≤ L * 2 * 2
  g_le =
      le_of_mul-le-mul_right {k = c * 1024}
      (le_trans (at_most_2 g (c * 1024) (a * s * L) err.0)
      (le_trans (mul-le-mul_right 2 (mul-le-mul_right L (mul-le-mul a_le sh.1))) (le_of_eq (simp (mul_assoc, mul_comm, mul_left_comm))))) u_pos

  is : mul binary64 x (factor_of s) ≡ round binary64 false (a * s) (c * 1024)
  is =
      mul_at binary64 x (factor_of s) a c s 1024 (positive_of_value x a c k.value a_pos) (positive_of_value (factor_of s) s 1024 (factor_val s sh) sh.0)
      k.c_pos (lit< tt) k.value (factor_val s sh)

  one_more : Close (mul binary64 x (factor_of s)) (suc m) (P * s)
  unfolding g
  one_more = record {
    a = g;
    c = L;
    c_pos = pow_pos (low binary64);
    value = subst (λ (z : Float). HasValue z false g L) (sym is) (round_val binary64 (a * s) (c * 1024) (lt_of_le_of_lt g_le (lit< tt)));
    above = subst (λ (e : ℕ). g * e * 2 ^ 52 ≤ P * s * L * 2 ^ 52 + P * s * L * suc m) (sym (tens m))
        (new_above a c g s P m E L k.c_pos (omega arith) k.above k.under err);
    under = subst (λ (e : ℕ). P * s * L * 2 ^ 52 ≤ g * e * 2 ^ 52 + P * s * L * suc m) (sym (tens m))
        (new_under a c g s P m E L k.c_pos (omega arith) k.above k.under err);
  }

-- all the factors
all : (ss : List ℕ) (x : Float) (m P : ℕ) → m + length ss ≤ 47 → All Share ss → 0 < P → P ≤ 2 ^ (10 * m) → Close x m P
    → Close (product_of x ss) (m + length ss) (P * exact_of ss)
unfolding product_of exact_of
all [] x m P l sh p q k = rw (add-zero, mul-one) k
all (s ∷ ss) x m P l (h, sh) p q k =
    let steps : suc m + length ss ≡ m + suc (length ss) = omega arith in
    rw (← steps, ← mul_assoc P s (exact_of ss))
    (all ss (mul binary64 x (factor_of s)) (suc m) (P * s) (omega arith) sh (mul-pos p h.0)
    (le_trans (mul-le-mul q h.1) (le_of_eq (sym (tens m)))) (one_more x s m P h (omega arith) p q k))

-- both bounds as one
both : (X Y Z : ℕ) → X * 2 ^ 52 ≤ Y * 2 ^ 52 + Z → Y * 2 ^ 52 ≤ X * 2 ^ 52 + Z → apart X Y * 2 ^ 52 ≤ Z
both X Y Z h k = omega arith

close_near : {x : Float} {m P : ℕ} → Close x m P → Near x m P
close_near {x} {m} {P} k =
    let turn : P * k.c * m ≡ m * P * k.c = simp (mul_assoc, mul_comm, mul_left_comm) in
    record {
      a = k.a;
      c = k.c;
      c_pos = k.c_pos;
      value = k.value;
      near = rw turn at (both (k.a * 2 ^ (10 * m)) (P * k.c) (P * k.c * m) k.above k.under);
    }

-- the float product of at most 47 shares is within m parts in 2 ^ 52 of the exact one
pub product_near : (ss : List ℕ) → length ss ≤ 47 → All Share ss → Near (product_of one ss) (length ss) (exact_of ss)
product_near ss l sh =
    let start : Close one 0 1 = record { a = 1; c = 1; c_pos = lit< tt; value = (refl, refl); above = lit≤ tt; under = lit≤ tt } in
    close_near (rw (zero-add, one-mul) at (all ss one 0 1 (omega arith) sh (lit< tt) (lit≤ tt) start))

-- one factor alone is exact
single : (s : ℕ) → Share s → HasValue (mul binary64 one (factor_of s)) false s 1024
unfolding factor_of
single s h =
    subst (λ (z : Float). HasValue z false s 1024)
    (sym (mul_at binary64 one (factor_of s) 1 1 s 1024 tt (positive_of_value (factor_of s) s 1024 (factor_val s h) h.0) (lit< tt) (lit< tt) (refl, refl)
    (factor_val s h) ∙ same))
    (factor_val s h)
  where
    same : round binary64 false (1 * s) (1 * 1024) ≡ factor_of s
    same = ap (λ (z : ℕ). round binary64 false z 1024) (one-mul s)

pub product_exact : (ss : List ℕ) → length ss ≡ 1 → All Share ss → HasValue (product_of one ss) false (exact_of ss) 1024
unfolding product_of exact_of
product_exact [] e sh = absurd (omega arith)
product_exact (s ∷ []) e (h, sh) = rw (mul-one s) (single s h)
product_exact (s ∷ t ∷ ss) e sh = absurd (omega arith)

-- the division of a whole number by 1024.0 is the factor
pub by_1024 : (x : Float) (s : ℕ) → HasValue x false s 1 → div binary64 x (fin false 1 (pos 10)) ≡ factor_of s
unfolding div factor_of
by_1024 nan s h = absurd h
by_1024 (inf t) s h = absurd h
by_1024 (fin true m e) s h = absurd (true≢false h.0)
by_1024 (fin false m e) s h =
    round_same binary64 false (m * up e * 1) (1 * 1024 * down e) s 1024 (mul-pos (lit< tt) (down_pos e)) (lit< tt)
    (ap (λ (z : ℕ). z * 1024) h.1 ∙ mul_assoc s (down e) 1024 ∙ ap (λ (z : ℕ). s * z) (mul_comm (down e) 1024))
