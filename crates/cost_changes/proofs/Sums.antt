-- Sums over lists of numbers: each law holds by recursion on the list.
use mathlib.Core.Path.{◌≡◌, refl, sym, ap}
use mathlib.Core.Logic.{◌⊎◌, inl, inr, ⊎_elim}
use mathlib.Core.List.Memᴰ
use mathlib.Core.List.{List, [], ◌∷◌, ◌++◌}
use Prim.Native.Nat.{ℕ, ◌+◌, ◌≤◌}
use native.Mathlib.Omega.{arith}
use native.Mathlib.Decide.{ℕ_discrete}
use Rattle.derivation.specs.Rank.{◌∈◌, Distinct}
use Rattle.derivation.proofs.Joined.{single}

-- f at each number of a list, summed
unfoldable pub total : (ℕ → ℕ) → List ℕ → ℕ
total f [] = 0
total f (e ∷ l) = f e + total f l

pub total_append : (f : ℕ → ℕ) (l m : List ℕ) → total f (l ++ m) ≡ total f l + total f m
unfolding total
total_append f [] m = omega arith
total_append f (x ∷ l) m = omega (arith, total_append f l m)

pub total_upto : (f h d : ℕ → ℕ) (l : List ℕ) → ((x : ℕ) → x ∈ l → f x ≤ h x + d x) → total f l ≤ total h l + total d l
unfolding total
total_upto f h d [] p = omega arith
total_upto f h d (x ∷ l) p =
    omega (arith, p x (Memᴰ.head refl), total_upto f h d l (λ y m. p y (Memᴰ.tail m)))

pub total_from : (f h d : ℕ → ℕ) (l : List ℕ) → ((x : ℕ) → x ∈ l → h x + d x ≤ f x) → total h l + total d l ≤ total f l
unfolding total
total_from f h d [] p = omega arith
total_from f h d (x ∷ l) p =
    omega (arith, p x (Memᴰ.head refl), total_from f h d l (λ y m. p y (Memᴰ.tail m)))

pub total_mono : (f h : ℕ → ℕ) (l : List ℕ) → ((x : ℕ) → x ∈ l → f x ≤ h x) → total f l ≤ total h l
unfolding total
total_mono f h [] p = omega arith
total_mono f h (x ∷ l) p = omega (arith, p x (Memᴰ.head refl), total_mono f h l (λ y m. p y (Memᴰ.tail m)))

-- l without one x that is in it
record Less (f : ℕ → ℕ) (x : ℕ) (l : List ℕ) : Type 0 where
  rest : List ℕ
  kept : (y : ℕ) → y ∈ l → (y ≡ x) ⊎ (y ∈ rest)
  sum : total f l ≡ f x + total f rest

less : (f : ℕ → ℕ) (x : ℕ) (l : List ℕ) → x ∈ l → Less f x l
unfolding total
less f x [] m = absurd (Memᴰ.not-nil m)
less f x (z ∷ l) m = ⊎_elim here (λ n. later (less f x l n)) (Memᴰ.cases_cons m)
  where
    here : x ≡ z → Less f x (z ∷ l)
    here e =
        let h : f z ≡ f x = ap f (sym e) in
        record {
          rest = l;
          kept = λ y n. ⊎_elim (λ p. let q : y ≡ x = cc in inl q) inr (Memᴰ.cases_cons n);
          sum = omega arith;
        }

    later : Less f x l → Less f x (z ∷ l)
    later r = record {
      rest = z ∷ r.rest;
      kept = λ y n.
          ⊎_elim (λ p. inr (Memᴰ.head p)) (λ o. ⊎_elim inl (λ q. inr (Memᴰ.tail q)) (r.kept y o))
          (Memᴰ.cases_cons n);
      sum = omega (arith, r.sum);
    }

-- what has each number once, and each that counts also in m, sums to no more than m
pub total_within : (f : ℕ → ℕ) (l m : List ℕ) → Distinct l → ((x : ℕ) → x ∈ l → (x ∈ m) ⊎ (f x ≡ 0)) → total f l ≤ total f m
unfolding total
total_within f [] m d p = omega arith
total_within f (x ∷ l) m (n, d) p =
    go (total_within f l m d (λ y o. p y (Memᴰ.tail o))) (total_within f l) (p x (Memᴰ.head refl))
  where
    go : total f l ≤ total f m
        → ((m : List ℕ) → Distinct l → ((y : ℕ) → y ∈ l → (y ∈ m) ⊎ (f y ≡ 0)) → total f l ≤ total f m)
        → (x ∈ m) ⊎ (f x ≡ 0) → f x + total f l ≤ total f m
    go a rec (inr z) = omega arith
    go a rec (inl i) =
        let r = less f x m i in
        let q : (y : ℕ) → y ∈ l → (y ∈ r.rest) ⊎ (f y ≡ 0) = λ y o.
        ⊎_elim (λ k. ⊎_elim (λ e. absurd (n (rw e at o))) inl (r.kept y k)) inr (p y (Memᴰ.tail o)) in
        omega (arith, rec r.rest d q, r.sum)

-- of a list with e once, where nothing else counts
pub total_single : (f : ℕ → ℕ) (l : List ℕ) (e : ℕ) → Distinct l → e ∈ l → ((x : ℕ) → ¬ (x ≡ e) → f x ≡ 0) → total f l ≡ f e
unfolding total
total_single f l e d m h =
    let up = total_within f l (e ∷ []) d (λ x n. counts (ℕ_discrete x e)) in
    let down = total_within f (e ∷ []) l (single e) (λ x n. inl (rw (Memᴰ.eq_of_singleton n) m)) in
    omega arith
  where
    counts : {x : ℕ} → Dec (x ≡ e) → (x ∈ (e ∷ [])) ⊎ (f x ≡ 0)
    counts (yes p) = inl (Memᴰ.head p)
    counts {x} (no p) = inr (h x p)

-- a number is in a list or not
pub in_or_not : (e : ℕ) (l : List ℕ) → (e ∈ l) ⊎ (¬ (e ∈ l))
in_or_not e [] = inr Memᴰ.not-nil
in_or_not e (x ∷ l) = go (ℕ_discrete e x) (in_or_not e l)
  where
    go : Dec (e ≡ x) → (e ∈ l) ⊎ (¬ (e ∈ l)) → (e ∈ (x ∷ l)) ⊎ (¬ (e ∈ (x ∷ l)))
    go (yes p) r = inl (Memᴰ.head p)
    go (no p) r = ⊎_elim (λ m. inl (Memᴰ.tail m)) (λ n. inr (λ m. ⊎_elim p n (Memᴰ.cases_cons m))) r
