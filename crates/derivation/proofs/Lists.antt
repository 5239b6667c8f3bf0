-- Elements by number and members of a list: each holds by recursion on the list.
use mathlib.Core.Path.{◌≡◌, refl, sym, ap}
use mathlib.Core.Logic.{⊎_elim, ◌↔◌}
use mathlib.Core.Option.{none, some}
use mathlib.Core.List.Memᴰ
use mathlib.Core.List.{List, [], ◌∷◌, ◌++◌, map}
use Prim.Native.Nat.{ℕ, zero, suc, ◌<◌, zero-le, suc-le-suc}
use native.Mathlib.Nat.{not-suc-le-zero, le_of_suc-le-suc}
use native.Mathlib.Omega.{arith}
use lib.ListN.{length, take}
use Rattle.derivation.specs.Derivation.{At}
use Rattle.derivation.specs.Rank.{◌∈◌, Distinct}

-- a member has a number, and an element is a member
pub mem_at : {A : Type 0} {x : A} {l : List A} → x ∈ l → (n : ℕ) × At l n x
mem_at (Memᴰ.head e) = (zero, ap some (sym e))
mem_at (Memᴰ.tail m) = let (n, e) = mem_at m in (suc n, e)

pub none≢some : {A : Type 0} {x : A} → none ≡ some x → ⊥
none≢some e = let z : ◌≡◌ {A = ℕ} 0 1 = cc in omega arith

pub at_mem : {A : Type 0} {x : A} (l : List A) (n : ℕ) → At l n x → x ∈ l
at_mem [] n e = absurd (none≢some e)
at_mem {x = x} (y ∷ l) zero e = let p : x ≡ y = cc in Memᴰ.head p
at_mem (y ∷ l) (suc n) e = Memᴰ.tail (at_mem l n e)

-- the numbers of elements are those below the length
pub at_length : {A : Type 0} {x : A} (l : List A) (n : ℕ) → At l n x → n < length l
at_length [] n e = absurd (none≢some e)
at_length (y ∷ l) zero e = suc-le-suc zero-le
at_length (y ∷ l) (suc n) e = suc-le-suc (at_length l n e)

pub length_at : {A : Type 0} (l : List A) (n : ℕ) → n < length l → (x : A) × At l n x
length_at [] n h = absurd (not-suc-le-zero h)
length_at (y ∷ l) zero h = (y, refl)
length_at (y ∷ l) (suc n) h = length_at l n (le_of_suc-le-suc h)

-- the elements of `take` and `map`
pub at_take : {A : Type 0} (N : ℕ) (l : List A) (n : ℕ) (x : A) → At (take N l) n x ↔ (At l n x × (n < N))
at_take zero l n x = ((λ e. absurd (none≢some e)), (λ p. absurd (omega arith)))
at_take (suc N) [] n x = ((λ e. absurd (none≢some e)), (λ p. p.0))
at_take (suc N) (y ∷ l) zero x = ((λ e. (e, omega arith)), (λ p. p.0))
at_take (suc N) (y ∷ l) (suc n) x =
    let r = at_take N l n x in ((λ e. ((r.0 e).0, omega (arith, (r.0 e).1))), (λ p. r.1 (p.0, omega arith)))

pub mem_of_take : {A : Type 0} {z : A} (n : ℕ) (l : List A) → z ∈ take n l → z ∈ l
mem_of_take zero l m = absurd (Memᴰ.not-nil m)
mem_of_take (suc n) [] m = m
mem_of_take (suc n) (x ∷ l) m = ⊎_elim Memᴰ.head (λ k. Memᴰ.tail (mem_of_take n l k)) (Memᴰ.cases_cons m)

pub at_map : {A B : Type 0} (f : A → B) (l : List A) (n : ℕ) {x : A} → At l n x → At (map f l) n (f x)
at_map f [] n e = absurd (none≢some e)
at_map f (y ∷ l) zero e = cc
at_map f (y ∷ l) (suc n) e = at_map f l n e

pub map_at : {A B : Type 0} (f : A → B) (l : List A) (n : ℕ) {b : B} → At (map f l) n b → (x : A) × At l n x × (b ≡ f x)
map_at f [] n e = absurd (none≢some e)
map_at f (y ∷ l) zero {b} e = let h : b ≡ f y = cc in (y, refl, h)
map_at f (y ∷ l) (suc n) e = map_at f l n e

-- lists without repetitions
pub distinct_append : {A : Type 0} (l m : List A) → Distinct l → Distinct m → ((z : A) → z ∈ l → z ∈ m → ⊥)
    → Distinct (l ++ m)
distinct_append [] m a b h = b
distinct_append (x ∷ l) m (n, a) b h = (
  (λ k. ⊎_elim n (h x (Memᴰ.head refl)) (Memᴰ.append_cases l k)),
  distinct_append l m a b (λ z p q. h z (Memᴰ.tail p) q),
)

pub distinct_at : {A : Type 0} (l : List A) (x : A) (n m : ℕ) → Distinct l → At l n x → At l m x → n ≡ m
distinct_at [] x n m d e f = absurd (none≢some e)
distinct_at (y ∷ l) x zero zero d e f = refl
distinct_at (y ∷ l) x zero (suc m) d e f = let p : y ≡ x = cc in absurd (d.0 (Memᴰ.cast p (at_mem l m f)))
distinct_at (y ∷ l) x (suc n) zero d e f = let p : y ≡ x = cc in absurd (d.0 (Memᴰ.cast p (at_mem l n e)))
distinct_at (y ∷ l) x (suc n) (suc m) d e f = ap suc (distinct_at l x n m d.1 e f)
