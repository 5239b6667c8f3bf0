-- A table filled cell after cell holds the least string of each symbol and length: a cell is made from cells before it, and those stay as
-- they are. Assumes nothing.
use mathlib.Core.Path.{◌≡◌}
use mathlib.Core.Option.{Option}
use mathlib.Core.List.{List}
use Prim.Native.Nat.{ℕ, suc, ◌+◌, ◌*◌, ◌/◌, ◌%◌, ◌≤◌, ◌<◌}
use native.Mathlib.Decide.{ℕ_discrete}
use native.Mathlib.Omega.{arith}
use lib.ListN.{length}
use Rattle.packing.specs.Meaning.{Grammar, symbol_of}
use Rattle.packing.specs.Valid.{ValidGrammar}
use Rattle.packing.proofs.Loop.{iter_keeps}
use Rattle.packing.specs.declared.Sym.{Sym}
use Rattle.packing.specs.declared.Rule.{Rule}
use Rattle.derivation.proofs.Ranges.{valid_sizes}
use Rattle.phrases.specs.Recursion.{Keeping, fill, cell_of, least_at}
use Rattle.phrases.proofs.Cell.{Of, Stored}
use Rattle.phrases.proofs.Keeping.{Sized, Each, Code, Keeps, Finds, each, sized_of, least_of_is}

-- a table of `size` cells, for what fits a cell
pub record Table {T K : Type 0} (size : ℕ) (Room : T → Type 0) (Fit : K → Type 0) (read : T → ℕ → K) (store : T → ℕ → K → T) : Type 0 where
  pub stays : (t : T) (c : ℕ) (x : K) → Room t → c < size → Fit x → Room (store t c x)
  pub same : (t : T) (c : ℕ) (x : K) → Room t → c < size → Fit x → read (store t c x) c ≡ x
  pub other : (t : T) (c d : ℕ) (x : K) → Room t → c < size → d < size → Fit x → (d ≡ c → ⊥) → read (store t c x) d ≡ read t d

module _ {T K : Type 0} {size : ℕ} {Room : T → Type 0} {Fit : K → Type 0} {read : T → ℕ → K} {store : T → ℕ → K → T}
    (law : Table size Room Fit read store) where
  filled : (Right : ℕ → K → Type 0) → (cell : T → ℕ → K) (n : ℕ) → n ≤ size → ((c : ℕ) (x : K) → c < n → Right c x → Fit x)
      → ((t : T) (c : ℕ) → c < n → ((d : ℕ) → d < c → Right d (read t d)) → Right c (cell t c))
      → (t : T) → Room t → Room (fill store cell t n) × ((c : ℕ) → c < n → Right c (read (fill store cell t n) c))
  unfolding fill
  filled Right cell n h fit right t room =
      iter_keeps (λ x t. Room t × ((d : ℕ) → d < x → Right d (read t d))) (λ t c. store t c (cell t c)) t n (room, λ d l. absurd (omega arith)) step
    where
      step : (x : ℕ) (t : T) → x < n → Room t × ((d : ℕ) → d < x → Right d (read t d))
          → Room (store t x (cell t x)) × ((d : ℕ) → d < suc x → Right d (read (store t x (cell t x)) d))
      step x t l (room, done) =
          let now = right t x l done in
          let here = fit x (cell t x) l now in
          (law.stays t x (cell t x) room (omega arith) here, λ d b. go now here d b (ℕ_discrete d x))
        where
          go : Right x (cell t x) → Fit (cell t x) → (d : ℕ) → d < suc x → Dec (d ≡ x) → Right d (read (store t x (cell t x)) d)
          go now here d b (yes e) = rw (e, law.same t x (cell t x) room (omega arith) here) now
          go now here d b (no e) = rw (law.other t x d (cell t x) room (omega arith) (omega arith) here e) (done d (omega arith))

-- all lengths up to n
module _ (g : Grammar) (v : ValidGrammar g) (rule : ℕ → Rule) (stored : Stored g rule) {K : Type 0} {most : ℕ} {keeping : Keeping K} {Codes : Code K}
    (law : Keeps g.words most keeping Codes)
    {T : Type 0} {size : ℕ} {Room : T → Type 0} {Fit : K → Type 0} {read : T → ℕ → K} {store : T → ℕ → K → T}
    (table : Table size Room Fit read store) (fit : (m : ℕ) (o : Option (List ℕ)) (x : K) → m ≤ most → Each (Sized g.words m) o → Codes m o x → Fit x)
    (n : ℕ) (h : n ≤ most) (fits : 32 * n ≤ size) (t : T) (room : Room t) where
  abbrev Right : ℕ → K → Type 0
  Right c x = Finds Codes (c / 32 + 1) (Of g (symbol_of (c % 32)) (c / 32 + 1)) x

  of_cell : (A : Sym) (m : ℕ) → A.0 < 32 → 0 < m → {x : K} → Right (cell_of A m) x → Finds Codes m (Of g A m) x
  of_cell A m a p f =
      let e₁ : cell_of A m / 32 + 1 ≡ m = omega arith in
      let e₂ : cell_of A m % 32 ≡ A.0 = omega arith in
      rw (e₁, e₂) at f

  pub least_filled : (A : Sym) (m : ℕ) → A.0 < 32 → 0 < m → m ≤ n
      → Finds Codes m (Of g A m) (read (fill store (least_at keeping rule (length g.rules) read) t (32 * n)) (cell_of A m))
  unfolding least_at
  least_filled A m a p l =
      of_cell A m a p ((filled table Right (least_at keeping rule (length g.rules) read) (32 * n) fits
      (λ c x l f. fit (c / 32 + 1) f.0 x (omega arith) (each (sized_of g v (symbol_of (c % 32)) (c / 32 + 1)) f.1) f.2) cell t room).1 (cell_of A m)
      (omega arith))
    where
      cell : (t : T) (c : ℕ) → c < 32 * n → ((d : ℕ) → d < c → Right d (read t d)) → Right c (least_at keeping rule (length g.rules) read t c)
      cell t c l done =
          least_of_is g v rule stored law (symbol_of (c % 32)) (c / 32 + 1) (omega arith) (omega arith) (λ B j. read t (cell_of B j))
          (λ B j b q r. let few = (valid_sizes g v).1 in of_cell B j (omega arith) q (done (cell_of B j) (omega arith)))
