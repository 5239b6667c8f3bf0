-- Two lists in which what has the lesser key stands earlier, and whose elements are matched one to one with keys kept, have equal length
-- and equal keys at every rank: if place n of the one had the lesser key, its first n + 1 elements would all be matched with the first n
-- of the other, and there is no room for them. Assumes nothing.
use mathlib.Core.Path.{◌≡◌, refl, sym, ap, ◌∙◌}
use mathlib.Core.Logic.{◌⊎◌, inl, inr, ⊎_elim}
use mathlib.Core.List.Memᴰ
use mathlib.Core.List.{List, [], ◌∷◌}
use Prim.Native.Nat.{ℕ, zero, suc, ◌≤◌, ◌<◌, zero-le, Ordering}
use native.Mathlib.Omega.{arith}
use lib.ListN.{length, take, length-take}
use lib.Seq.{length-take-le}
use Rattle.derivation.specs.Derivation.{At}
use Rattle.derivation.specs.Rank.{◌∈◌, Distinct}
use Rattle.derivation.proofs.Comparison.{Lawful, turn_gt}
use Rattle.derivation.proofs.Lists.{mem_at, at_mem, at_length, at_take, mem_of_take}

-- a list with one element taken out
taken : {A : Type 0} {y : A} {l : List A} → y ∈ l
    → (m : List A) × (length l ≡ suc (length m)) × ((z : A) → z ∈ l → (z ≡ y) ⊎ (z ∈ m))
taken (Memᴰ.head {xs = l} e) = (l, refl, λ z k. ⊎_elim (λ p. inl (p ∙ sym e)) inr (Memᴰ.cases_cons k))
taken (Memᴰ.tail {x = x} k) =
    let (m, c, h) = taken k in (
      x ∷ m,
      ap suc c,
      λ z j. ⊎_elim (λ p. inr (Memᴰ.head p)) (λ n. ⊎_elim inl (λ o. inr (Memᴰ.tail o)) (h z n))
          (Memᴰ.cases_cons j),
    )

-- the pigeonhole principle
pigeons : {A B : Type 0} (Q : A → B → Type 0) → ((x x' : A) (y : B) → Q x y → Q x' y → x ≡ x') → (l : List A) (m : List B)
    → Distinct l → ((x : A) → x ∈ l → (y : B) × (y ∈ m) × Q x y) → length l ≤ length m
pigeons Q one [] m d h = zero-le
pigeons {A} {B} Q one (x ∷ l) m d h =
    let (y, k, q) = h x (Memᴰ.head refl) in
    let (n, c, left) = taken k in
    let rest : (z : A) → z ∈ l → (w : B) × (w ∈ n) × Q z w = λ z p.
    let (w, j, r) = h z (Memᴰ.tail p) in
    ⊎_elim (λ e. absurd (d.0 (Memᴰ.cast (one x z y q (rw e at r)) p))) (λ o. (w, o, r)) (left w j) in
    omega (arith, c, pigeons Q one l n d.1 rest)

take_distinct : {A : Type 0} (n : ℕ) (l : List A) → Distinct l → Distinct (take n l)
take_distinct zero l d = tt
take_distinct (suc n) [] d = tt
take_distinct (suc n) (x ∷ l) d = ((λ m. d.0 (mem_of_take n l m)), take_distinct n l d.1)

-- what has the lesser key stands earlier
abbrev pub Climbs : {A K : Type 0} → (K → K → Ordering) → (A → K) → List A → Type 0
Climbs {A} cmp key l = (m n : ℕ) (x y : A) → At l m x → At l n y → cmp (key x) (key y) ≡ Ordering.lt → m < n

-- what is no greater than b is less than what b is less than
under : {K : Type 0} {cmp : K → K → Ordering} → Lawful cmp → (a b c : K) → (cmp b a ≡ Ordering.lt → ⊥) → cmp b c ≡ Ordering.lt
    → cmp a c ≡ Ordering.lt
under {cmp = cmp} law a b c h p = go (cmp a b) refl
  where
    go : (o : Ordering) → cmp a b ≡ o → cmp a c ≡ Ordering.lt
    go Ordering.lt e = law.chain a b c e p
    go Ordering.eq e = rw (law.same a b e) p
    go Ordering.gt e = absurd (h (turn_gt law a b e))

-- each element of l has a match in m, no two have one match, and matches have one key
pub record Into {A B K : Type 0} (Match : A → B → Type 0) (key : A → K) (key' : B → K) (l : List A) (m : List B) : Type 0 where
  pub once : Distinct l
  pub found : (x : A) → x ∈ l → (y : B) × (y ∈ m) × Match x y
  pub one : (x x' : A) (y : B) → Match x y → Match x' y → x ≡ x'
  pub keeps : (x : A) (y : B) → Match x y → key x ≡ key' y

never_less : {A B K : Type 0} {cmp : K → K → Ordering} → Lawful cmp → {Match : A → B → Type 0} {key : A → K} {key' : B → K}
    {l : List A} {m : List B} → Into Match key key' l m → Climbs cmp key l → Climbs cmp key' m → (n : ℕ) {x : A} {y : B}
    → At l n x → At m n y → cmp (key x) (key' y) ≡ Ordering.lt → ⊥
never_less {A} {B} {cmp = cmp} law {Match} {key} {key'} {l} {m} into climbs climbs' n {x} {y} e f h =
    omega (
      arith,
      pigeons Match into.one (take (suc n) l) (take n m) (take_distinct (suc n) l into.once) earlier,
      length-take-le (suc n) l (at_length l n e),
      length-take n m,
    )
  where
    earlier : (z : A) → z ∈ take (suc n) l → (w : B) × (w ∈ take n m) × Match z w
    earlier z p =
        let (i, a) = mem_at p in
        let (b, c) = (at_take (suc n) l i z).0 a in
        let (w, j, q) = into.found z (at_mem l i b) in
        let (k, d) = mem_at j in
        let less : cmp (key z) (key' y) ≡ Ordering.lt = under law (key z) (key x) (key' y)
        (λ o. omega (arith, climbs n i x z e b o)) h in
        let before : k < n = climbs' k n w y d f (rw (into.keeps z w q) at less) in
        (w, at_mem (take n m) k ((at_take n m k w).1 (d, before)), q)

-- both ways
module _ {A B K : Type 0} {Match : A → B → Type 0} {key : A → K} {key' : B → K} {l : List A} {m : List B}
    (into : Into Match key key' l m) (back : Into (λ y x. Match x y) key' key m l) where
  pub same_length : length l ≡ length m
  same_length =
      omega (
        arith,
        pigeons Match into.one l m into.once into.found,
        pigeons (λ y x. Match x y) back.one m l back.once back.found,
      )

  pub same_keys : {cmp : K → K → Ordering} → Lawful cmp → Climbs cmp key l → Climbs cmp key' m → (n : ℕ) {x : A} {y : B}
      → At l n x → At m n y → key x ≡ key' y
  same_keys {cmp} law climbs climbs' n {x} {y} e f = go (cmp (key x) (key' y)) refl
    where
      go : (o : Ordering) → cmp (key x) (key' y) ≡ o → key x ≡ key' y
      go Ordering.lt h = absurd (never_less law into climbs climbs' n e f h)
      go Ordering.eq h = law.same (key x) (key' y) h
      go Ordering.gt h = absurd (never_less law back climbs' climbs n f e (turn_gt law (key x) (key' y) h))
