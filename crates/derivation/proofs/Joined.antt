-- The members of the lists that an enumeration is joined from, and why nothing is in them twice: each holds by recursion on
-- the list.
use mathlib.Core.Path.{◌≡◌, refl}
use mathlib.Core.Logic.{⊎_elim}
use mathlib.Core.Bool.{Bool, true, false}
use mathlib.Core.List.Memᴰ
use mathlib.Core.List.{List, [], ◌∷◌}
use Prim.Native.Nat.{ℕ, zero, suc, ◌<◌, zero-le, suc-le-suc}
use native.Mathlib.Nat.{not-suc-le-zero, le_of_suc-le-suc}
use native.Mathlib.Omega.{arith}
use lib.Dec.{eqb, T, eqb→eq, eqb_refl}
use Rattle.derivation.specs.Derivation.{At, Tree, node}
use Rattle.derivation.specs.Rank.{◌∈◌, Distinct}
use Rattle.derivation.specs.List.{each, each_below, keep_if, only, combined}
use Rattle.derivation.proofs.Lists.{none≢some, mem_at, at_mem, distinct_append, distinct_at}

pub each_out : {A B : Type 0} (f : ℕ → A → List B) (l : List A) {b : B} → b ∈ each f l
    → (n : ℕ) × (x : A) × At l n x × b ∈ f n x
unfolding each
each_out f [] m = absurd (Memᴰ.not-nil m)
each_out f (x ∷ l) m =
    ⊎_elim (λ h. (0, x, refl, h)) (λ h. let r = each_out (λ n. f (suc n)) l h in (suc r.0, r.1, r.2, r.3))
    (Memᴰ.append_cases (f 0 x) m)

pub each_in : {A B : Type 0} (f : ℕ → A → List B) (l : List A) (n : ℕ) {x : A} {b : B} → At l n x → b ∈ f n x → b ∈ each f l
unfolding each
each_in f [] n e m = absurd (none≢some e)
each_in f (y ∷ l) zero {x} e m = let p : y ≡ x = cc in Memᴰ.append_left {s = f 0 y} _ (rw p m)
each_in f (y ∷ l) (suc n) e m = Memᴰ.append_right (f 0 y) (each_in (λ n. f (suc n)) l n e m)

pub each_distinct : {A B : Type 0} (f : ℕ → A → List B) (l : List A) → ((n : ℕ) (x : A) → At l n x → Distinct (f n x))
    → ((n m : ℕ) (x y : A) (z : B) → At l n x → At l m y → z ∈ f n x → z ∈ f m y → n ≡ m) → Distinct (each f l)
unfolding each
each_distinct f [] h k = tt
each_distinct f (x ∷ l) h k =
    distinct_append (f 0 x) (each (λ n. f (suc n)) l) (h 0 x refl)
    (each_distinct (λ n. f (suc n)) l (λ n y e. h (suc n) y e)
    (λ n m y y' z e e' p q. omega (arith, k (suc n) (suc m) y y' z e e' p q)))
    (λ z p q. let (n, y, e, q') = each_out (λ n. f (suc n)) l q in omega (arith, k 0 (suc n) x y z refl e p q'))

pub below_out : {B : Type 0} (f : ℕ → List B) (n : ℕ) {b : B} → b ∈ each_below f n → (m : ℕ) × (m < n) × b ∈ f m
unfolding each_below
below_out f zero m = absurd (Memᴰ.not-nil m)
below_out f (suc n) m =
    ⊎_elim (λ h. (0, suc-le-suc zero-le, h)) (λ h. let r = below_out (λ n. f (suc n)) n h in
    (suc r.0, suc-le-suc r.1, r.2)) (Memᴰ.append_cases (f 0) m)

pub below_in : {B : Type 0} (f : ℕ → List B) (n m : ℕ) {b : B} → m < n → b ∈ f m → b ∈ each_below f n
unfolding each_below
below_in f zero m h k = absurd (not-suc-le-zero h)
below_in f (suc n) zero h k = Memᴰ.append_left _ k
below_in f (suc n) (suc m) h k = Memᴰ.append_right (f 0) (below_in (λ n. f (suc n)) n m (le_of_suc-le-suc h) k)

pub below_distinct : {B : Type 0} (f : ℕ → List B) (n : ℕ) → ((m : ℕ) → Distinct (f m))
    → ((m m' : ℕ) (z : B) → z ∈ f m → z ∈ f m' → m ≡ m') → Distinct (each_below f n)
unfolding each_below
below_distinct f zero h k = tt
below_distinct f (suc n) h k =
    distinct_append (f 0) (each_below (λ m. f (suc m)) n) (h 0)
    (below_distinct (λ m. f (suc m)) n (λ m. h (suc m)) (λ m m' z p q. omega (arith, k (suc m) (suc m') z p q)))
    (λ z p q. let (m, b, q') = below_out (λ m. f (suc m)) n q in omega (arith, k 0 (suc m) z p q'))

pub keep_out : {B : Type 0} (t : Bool) {l : List B} {b : B} → b ∈ keep_if t l → T t × b ∈ l
unfolding keep_if
keep_out true m = (tt, m)
keep_out false m = absurd (Memᴰ.not-nil m)

pub keep_in : {B : Type 0} (t : Bool) {l : List B} {b : B} → T t → b ∈ l → b ∈ keep_if t l
unfolding keep_if
keep_in true h m = m
keep_in false h m = absurd h

pub keep_distinct : {B : Type 0} (t : Bool) (l : List B) → Distinct l → Distinct (keep_if t l)
unfolding keep_if
keep_distinct true l d = d
keep_distinct false l d = tt

pub only_out : {B : Type 0} (m n : ℕ) {l : List B} {b : B} → b ∈ only m n l → (m ≡ n) × b ∈ l
unfolding only
only_out m n k = let r = keep_out (eqb m n) k in (eqb→eq m n r.0, r.1)

pub only_in : {B : Type 0} (n : ℕ) {l : List B} {b : B} → b ∈ l → b ∈ only n n l
unfolding only
only_in n k = keep_in (eqb n n) (eqb_refl n) k

pub only_distinct : {B : Type 0} (m n : ℕ) (l : List B) → Distinct l → Distinct (only m n l)
unfolding only
only_distinct m n l d = keep_distinct (eqb m n) l d

pub single : {B : Type 0} (x : B) → Distinct (x ∷ [])
single x = ((λ m. Memᴰ.not-nil m), tt)

pub joined_out : (r j : ℕ) (ls rs : List Tree) {t : Tree} → t ∈ combined r j ls rs
    → (a : Tree) × (b : Tree) × a ∈ ls × b ∈ rs × (t ≡ node r j a b)
unfolding combined
joined_out r j ls rs m =
    let (p, a, e, m₁) = each_out _ ls m in
    let (q, b, e', m₂) = each_out _ rs m₁ in
    (a, b, at_mem ls p e, at_mem rs q e', Memᴰ.eq_of_singleton m₂)

pub joined_in : (r j : ℕ) (ls rs : List Tree) {a b : Tree} → a ∈ ls → b ∈ rs → node r j a b ∈ combined r j ls rs
unfolding combined
joined_in r j ls rs m n =
    let (p, e) = mem_at m in let (q, e') = mem_at n in each_in _ ls p e (each_in _ rs q e' (Memᴰ.head refl))

pub joined_distinct : (r j : ℕ) (ls rs : List Tree) → Distinct ls → Distinct rs → Distinct (combined r j ls rs)
unfolding combined
joined_distinct r j ls rs a b =
    each_distinct _ ls
    (λ p s e. each_distinct _ rs (λ q t f. single (node r j s t)) (λ n m x y z e' f p' q'.
    let h₁ : z ≡ node r j s x = Memᴰ.eq_of_singleton p' in
    let h₂ : z ≡ node r j s y = Memᴰ.eq_of_singleton q' in
    let h : y ≡ x = cc in
    distinct_at rs x n m b e' (rw h at f)))
    (λ n m x y z e f p q.
    let (c, t, e', p') = each_out _ rs p in
    let (d, t', f', q') = each_out _ rs q in
    let h₁ : z ≡ node r j x t = Memᴰ.eq_of_singleton p' in
    let h₂ : z ≡ node r j y t' = Memᴰ.eq_of_singleton q' in
    let h : y ≡ x = cc in
    distinct_at ls x n m a e (rw h at f))
