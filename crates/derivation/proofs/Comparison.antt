-- Comparisons with three answers: what makes one a strict total order, numbers, and one comparison after another.
use mathlib.Core.Path.{◌≡◌, refl, sym, ap, ◌∙◌}
use mathlib.Core.Logic.{◌⊎◌, inl, inr, ⊎_elim}
use Prim.Native.Nat.compare
use Prim.Native.Nat.{
  ℕ,
  zero,
  suc,
  ◌≤◌,
  ◌<◌,
  zero-le,
  suc-le-suc,
  compare,
  Ordering,
}
use native.Mathlib.Nat.{not-suc-le-zero, le_of_suc-le-suc}
use native.Mathlib.Omega.{arith}
use Rattle.derivation.specs.Order.{◌▸◌}

unfoldable pub turned : Ordering → Ordering
turned Ordering.lt = Ordering.gt
turned Ordering.eq = Ordering.eq
turned Ordering.gt = Ordering.lt

-- what makes a comparison a strict total order
pub record Lawful {A : Type 0} (cmp : A → A → Ordering) : Type 0 where
  pub self : (x : A) → cmp x x ≡ Ordering.eq
  pub same : (x y : A) → cmp x y ≡ Ordering.eq → x ≡ y
  pub turn : (x y : A) → cmp y x ≡ turned (cmp x y)
  pub chain : (x y z : A) → cmp x y ≡ Ordering.lt → cmp y z ≡ Ordering.lt → cmp x z ≡ Ordering.lt

-- the answers differ
pub lt≢eq : Ordering.lt ≡ Ordering.eq → ⊥
lt≢eq e = let z : ◌≡◌ {A = ℕ} 0 1 = cc in omega arith

pub lt≢gt : Ordering.lt ≡ Ordering.gt → ⊥
lt≢gt e = let z : ◌≡◌ {A = ℕ} 0 1 = cc in omega arith

pub eq≢gt : Ordering.eq ≡ Ordering.gt → ⊥
eq≢gt e = let z : ◌≡◌ {A = ℕ} 0 1 = cc in omega arith

-- numbers
pub compare_self : (m : ℕ) → compare m m ≡ Ordering.eq
compare_self zero = compare.zero-zero
compare_self (suc m) = compare.suc-suc m m ∙ compare_self m

pub compare_same : (m n : ℕ) → compare m n ≡ Ordering.eq → m ≡ n
compare_same zero zero e = refl
compare_same zero (suc n) e = absurd (lt≢eq (sym (compare.zero-suc n) ∙ e))
compare_same (suc m) zero e = absurd (eq≢gt (sym e ∙ compare.suc-zero m))
compare_same (suc m) (suc n) e = ap suc (compare_same m n (sym (compare.suc-suc m n) ∙ e))

pub compare_turn : (m n : ℕ) → compare n m ≡ turned (compare m n)
unfolding turned
compare_turn zero zero = rw compare.zero-zero
compare_turn zero (suc n) = rw (compare.zero-suc, compare.suc-zero)
compare_turn (suc m) zero = rw (compare.zero-suc, compare.suc-zero)
compare_turn (suc m) (suc n) = simp compare.suc-suc (compare_turn m n)

pub compare_lt : (m n : ℕ) → m < n → compare m n ≡ Ordering.lt
compare_lt m zero h = absurd (not-suc-le-zero h)
compare_lt zero (suc n) h = compare.zero-suc n
compare_lt (suc m) (suc n) h = compare.suc-suc m n ∙ compare_lt m n (le_of_suc-le-suc h)

pub compare_below : (m n : ℕ) → compare m n ≡ Ordering.lt → m < n
compare_below zero zero e = absurd (lt≢eq (sym e ∙ compare.zero-zero))
compare_below zero (suc n) e = suc-le-suc zero-le
compare_below (suc m) zero e = absurd (lt≢gt (sym e ∙ compare.suc-zero m))
compare_below (suc m) (suc n) e = suc-le-suc (compare_below m n (sym (compare.suc-suc m n) ∙ e))

pub compare_gt : (m n : ℕ) → n < m → compare m n ≡ Ordering.gt
unfolding turned
compare_gt m n h = compare_turn n m ∙ ap turned (compare_lt n m h)

pub compare_lawful : Lawful compare
compare_lawful = record {
  self = compare_self;
  same = compare_same;
  turn = compare_turn;
  chain = λ x y z p q. compare_lt x z (omega (arith, compare_below x y p, compare_below y z q));
}

pub turn_gt : {A : Type 0} {cmp : A → A → Ordering} (law : Lawful cmp) (x y : A) → cmp x y ≡ Ordering.gt
    → cmp y x ≡ Ordering.lt
unfolding turned
turn_gt law x y e = law.turn x y ∙ ap turned e

-- one comparison after another
pub ▸-turn : (a b : Ordering) → turned (a ▸ b) ≡ turned a ▸ turned b
unfolding turned ◌▸◌
▸-turn Ordering.lt b = refl
▸-turn Ordering.eq b = refl
▸-turn Ordering.gt b = refl

pub ▸-eq : (a b : Ordering) → a ▸ b ≡ Ordering.eq → (a ≡ Ordering.eq) × (b ≡ Ordering.eq)
unfolding ◌▸◌
▸-eq Ordering.lt b e = absurd (lt≢eq e)
▸-eq Ordering.eq b e = (refl, e)
▸-eq Ordering.gt b e = absurd (eq≢gt (sym e))

-- the second matters only where the first is equal
pub ▸-cong : (a : Ordering) {b c : Ordering} → (a ≡ Ordering.eq → b ≡ c) → a ▸ b ≡ a ▸ c
unfolding ◌▸◌
▸-cong Ordering.lt h = refl
▸-cong Ordering.eq h = h refl
▸-cong Ordering.gt h = refl

pub ▸-lt : (a b : Ordering) → a ▸ b ≡ Ordering.lt → (a ≡ Ordering.lt) ⊎ ((a ≡ Ordering.eq) × (b ≡ Ordering.lt))
unfolding ◌▸◌
▸-lt Ordering.lt b e = inl refl
▸-lt Ordering.eq b e = inr (refl, e)
▸-lt Ordering.gt b e = absurd (lt≢gt (sym e))

pub ▸-first : (a b : Ordering) → a ≡ Ordering.lt → a ▸ b ≡ Ordering.lt
unfolding ◌▸◌
▸-first a b e = rw e refl

pub ▸-second : (a b : Ordering) → a ≡ Ordering.eq → b ≡ Ordering.lt → a ▸ b ≡ Ordering.lt
unfolding ◌▸◌
▸-second a b e f = rw e f

pub ▸-gt : (a b : Ordering) → a ≡ Ordering.gt → a ▸ b ≡ Ordering.gt
unfolding ◌▸◌
▸-gt a b e = rw e refl

pub ▸-between : (o : Ordering) → o ≡ Ordering.eq ▸ o ▸ Ordering.eq
unfolding ◌▸◌
▸-between Ordering.lt = refl
▸-between Ordering.eq = refl
▸-between Ordering.gt = refl

-- transitivity of one comparison after another: the first tells different things apart, and is transitive here
module _ {A : Type 0} (cmp : A → A → Ordering) (same : (x y : A) → cmp x y ≡ Ordering.eq → x ≡ y) where
  pub ▸-chain : (x y z : A) → (cmp x y ≡ Ordering.lt → cmp y z ≡ Ordering.lt → cmp x z ≡ Ordering.lt) → {b b' b'' : Ordering}
      → (b ≡ Ordering.lt → b' ≡ Ordering.lt → b'' ≡ Ordering.lt) → cmp x y ▸ b ≡ Ordering.lt → cmp y z ▸ b' ≡ Ordering.lt
      → cmp x z ▸ b'' ≡ Ordering.lt
  ▸-chain x y z chain {b} {b'} {b''} f p q = go (▸-lt (cmp x y) b p) (▸-lt (cmp y z) b' q)
    where
      go : (cmp x y ≡ Ordering.lt) ⊎ ((cmp x y ≡ Ordering.eq) × (b ≡ Ordering.lt))
          → (cmp y z ≡ Ordering.lt) ⊎ ((cmp y z ≡ Ordering.eq) × (b' ≡ Ordering.lt)) → cmp x z ▸ b'' ≡ Ordering.lt
      go (inl h) (inl k) = ▸-first (cmp x z) b'' (chain h k)
      go (inl h) (inr k) = ▸-first (cmp x z) b'' (rw (← same y z k.0) h)
      go (inr h) (inl k) = ▸-first (cmp x z) b'' (rw (same x y h.0) k)
      go (inr h) (inr k) = ▸-second (cmp x z) b'' (rw (same x y h.0) k.0) (f h.1 k.1)

pub number_chain : (x y z : ℕ) {b b' b'' : Ordering} → (b ≡ Ordering.lt → b' ≡ Ordering.lt → b'' ≡ Ordering.lt)
    → compare x y ▸ b ≡ Ordering.lt → compare y z ▸ b' ≡ Ordering.lt → compare x z ▸ b'' ≡ Ordering.lt
number_chain x y z = ▸-chain compare compare_same x y z (compare_lawful.chain x y z)

pub number_turn : (m n : ℕ) (b : Ordering) {b' : Ordering} → b' ≡ turned b → compare n m ▸ b' ≡ turned (compare m n ▸ b)
number_turn m n b e = rw (compare_turn m n, e, ▸-turn)

pub weigh : (m n : ℕ) (o : Ordering) → compare m n ▸ o ≡ Ordering.lt → m ≤ n
weigh m n o h =
    ⊎_elim (λ e. omega (arith, compare_below m n e)) (λ e. omega (arith, compare_same m n e.0)) (▸-lt (compare m n) o h)

-- what is left to say where two numbers are equal
pub ▸-rest : (m n : ℕ) (o : Ordering) → m ≡ n → compare m n ▸ o ≡ Ordering.lt → o ≡ Ordering.lt
▸-rest m n o e h =
    ⊎_elim (λ l. absurd (omega (arith, compare_below m n l))) (λ l. l.1) (▸-lt (compare m n) o h)

pub ▸-le : (m n : ℕ) (o : Ordering) → m ≤ n → (m ≡ n → o ≡ Ordering.lt) → compare m n ▸ o ≡ Ordering.lt
▸-le m n o h e = go (compare m n) refl
  where
    go : (c : Ordering) → compare m n ≡ c → compare m n ▸ o ≡ Ordering.lt
    go Ordering.lt p = ▸-first _ o p
    go Ordering.eq p = ▸-second _ o p (e (compare_same m n p))
    go Ordering.gt p = absurd (omega (arith, compare_below n m (turn_gt compare_lawful m n p)))
