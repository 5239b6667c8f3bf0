-- A number that is the least of a family: what is found is there, and what is there is not less. The least of numbers that may be missing is
-- such a number.
use mathlib.Core.Path.{◌≡◌, refl, ap}
use mathlib.Core.Logic.{◌⊎◌, inl, inr, ⊎_elim}
use mathlib.Core.Bool.{Bool, true, false}
use mathlib.Core.Option.{Option, none, some}
use Prim.Native.Nat.{ℕ, zero, suc, ◌+◌, ◌≤◌, ◌<◌, min}
use native.Mathlib.Omega.{arith}
use native.Mathlib.Decide.{dec_le, ℕ_discrete}
use lib.Dec.{eqb}
use borrow.Author.Tests.{eqb-true, eq-eqb}
use Rattle.bits.specs.Bits.{pick}
use Rattle.derivation.proofs.Lists.{none≢some}
use Rattle.cost_changes.specs.Outside.{lesser, least_upto, sum, if_same, if_there}

-- o is the least of f over all that has the property P; none where nothing has it
pub record IsLeast {X : Type 0} (P : X → Type 0) (f : X → ℕ) (o : Option ℕ) : Type 0 where
  pub found : (v : ℕ) → o ≡ some v → (x : X) × P x × (f x ≡ v)
  pub finds : (x : X) → P x → (v : ℕ) × (o ≡ some v) × (v ≤ f x)

-- so there is one
pub least_unique : {X : Type 0} {P : X → Type 0} {f : X → ℕ} (o o' : Option ℕ) → IsLeast P f o → IsLeast P f o' → o ≡ o'
least_unique none none a b = refl
least_unique none (some v) a b = let (x, p, e) = b.found v refl in absurd (none≢some (a.finds x p).1)
least_unique (some v) none a b = let (x, p, e) = a.found v refl in absurd (none≢some (b.finds x p).1)
least_unique (some v) (some w) a b =
    let (x, p, e) = a.found v refl in
    let (y, q, e') = b.found w refl in
    let (w', h, l) = b.finds x p in
    let (v', h', l') = a.finds y q in
    let z : w ≡ w' = cc in
    let z' : v ≡ v' = cc in
    let same : v ≡ w = omega arith in
    ap some same

-- there is a number, no greater than v
abbrev pub Under : Option ℕ → ℕ → Type 0
Under o v = (x : ℕ) × (o ≡ some x) × (x ≤ v)

pub lesser_found : (a b : Option ℕ) (v : ℕ) → lesser a b ≡ some v → (a ≡ some v) ⊎ (b ≡ some v)
unfolding lesser
lesser_found none b v e = inr e
lesser_found (some x) none v e = inl e
lesser_found (some x) (some y) v e = go (dec_le x y)
  where
    go : Dec (x ≤ y) → (some x ≡ some v) ⊎ (some y ≡ some v)
    go (yes h) = let p : v ≡ min x y = cc in let q : x ≡ v = omega arith in inl (ap some q)
    go (no h) = let p : v ≡ min x y = cc in let q : y ≡ v = omega arith in inr (ap some q)

pub lesser_left : (a b : Option ℕ) (v : ℕ) → Under a v → Under (lesser a b) v
unfolding lesser
lesser_left none b v (x, e, h) = absurd (none≢some e)
lesser_left (some y) none v u = u
lesser_left (some y) (some z) v (x, e, h) = let q : y ≡ x = cc in (min y z, refl, omega arith)

pub lesser_right : (a b : Option ℕ) (v : ℕ) → Under b v → Under (lesser a b) v
unfolding lesser
lesser_right none b v u = u
lesser_right (some y) none v (x, e, h) = absurd (none≢some e)
lesser_right (some y) (some z) v (x, e, h) = let q : z ≡ x = cc in (min y z, refl, omega arith)

pub upto_found : (f : ℕ → Option ℕ) (m v : ℕ) → least_upto f m ≡ some v → (d : ℕ) × (d < m) × (f d ≡ some v)
unfolding least_upto
upto_found f zero v e = absurd (none≢some e)
upto_found f (suc m) v e =
    ⊎_elim (λ p. let (d, h, q) = upto_found f m v p in (d, omega arith, q)) (λ p. (m, omega arith, p))
    (lesser_found (least_upto f m) (f m) v e)

pub upto_finds : (f : ℕ → Option ℕ) (m d v : ℕ) → d < m → Under (f d) v → Under (least_upto f m) v
unfolding least_upto
upto_finds f zero d v h u = absurd (omega arith)
upto_finds f (suc m) d v h u = go (λ l. upto_finds f m d v l u) (ℕ_discrete d m)
  where
    go : (d < m → Under (least_upto f m) v) → Dec (d ≡ m) → Under (lesser (least_upto f m) (f m)) v
    go before (yes p) = lesser_right (least_upto f m) (f m) v (rw p at u)
    go before (no p) = lesser_left (least_upto f m) (f m) v (before (omega arith))

-- it goes with the numbers below m
pub upto_same : (f h : ℕ → Option ℕ) (m : ℕ) → ((d : ℕ) → d < m → f d ≡ h d) → least_upto f m ≡ least_upto h m
unfolding least_upto
upto_same f h zero p = refl
upto_same f h (suc m) p = rw (upto_same f h m (λ d l. p d (omega arith)), p m (omega arith))

pub sum_found : (w v : ℕ) (a b : Option ℕ) → sum w a b ≡ some v
    → (x : ℕ) × (y : ℕ) × (a ≡ some x) × (b ≡ some y) × (v ≡ w + x + y)
unfolding sum
sum_found w v none b e = absurd (none≢some e)
sum_found w v (some x) none e = absurd (none≢some e)
sum_found w v (some x) (some y) e = let p : v ≡ w + x + y = cc in (x, y, refl, refl, p)

pub sum_finds : (w x y : ℕ) (a b : Option ℕ) → Under a x → Under b y → Under (sum w a b) (w + x + y)
unfolding sum
sum_finds w x y none b (x', p, h) u = absurd (none≢some p)
sum_finds w x y (some a) none u (y', q, l) = absurd (none≢some q)
sum_finds w x y (some a) (some b) (x', p, h) (y', q, l) =
    let ha : a ≡ x' = cc in let hb : b ≡ y' = cc in (w + a + b, refl, omega arith)

pub same_found : (m n v : ℕ) (o : Option ℕ) → if_same m n o ≡ some v → (m ≡ n) × (o ≡ some v)
same_found m n v o e = go (eqb m n) refl e
  where
    go : (b : Bool) → eqb m n ≡ b → pick b o none ≡ some v → (m ≡ n) × (o ≡ some v)
    go true p e = (eqb-true m n p, e)
    go false p e = absurd (none≢some e)

pub same_is : (m : ℕ) (o : Option ℕ) → if_same m m o ≡ o
same_is m o = rw (eq-eqb m m refl)

pub there_found : (a o : Option ℕ) (v : ℕ) → if_there a o ≡ some v → o ≡ some v
unfolding if_there
there_found none o v e = absurd (none≢some e)
there_found (some x) o v e = e

pub there_finds : (a o : Option ℕ) (x v : ℕ) → a ≡ some x → Under o v → Under (if_there a o) v
unfolding if_there
there_finds a o x v e u = rw e u
