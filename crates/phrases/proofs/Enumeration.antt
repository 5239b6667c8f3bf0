-- The lists of specs/Enumeration: `strings` has all strings of a length, ascending, since it takes the first words in ascending order;
-- a test keeps the order; and the test `says` tells what the grammar derives. Each holds by recursion on the list.
use mathlib.Core.Path.{◌≡◌, refl, sym, ap, ◌∙◌}
use mathlib.Core.Logic.{⊎_elim, ◌↔◌}
use mathlib.Core.Bool.{Bool, true, false, true≢false}
use mathlib.Core.Option.{none}
use mathlib.Core.List.Memᴰ
use mathlib.Core.List.{
  List,
  [],
  ◌∷◌,
  ◌++◌,
  map,
  head?,
  nil≢cons,
  cons≢nil,
}
use Prim.Native.Nat.{ℕ, zero, suc, ◌<◌, Ordering}
use native.Mathlib.Omega.{arith}
use lib.ListN.{length, get_elem?}
use Rattle.packing.specs.Meaning.{Grammar, edges, symbol_of}
use Rattle.derivation.specs.Derivation.{Tree, At}
use Rattle.derivation.specs.Rank.{◌∈◌}
use Rattle.derivation.specs.List.{each_below, keep_if, trees}
use Rattle.derivation.proofs.Comparison.{turned, compare_lt, compare_self, ▸-first, ▸-second}
use Rattle.derivation.proofs.Lists.{mem_at, at_mem, at_map, map_at, none≢some}
use Rattle.derivation.proofs.Joined.{below_out, below_in}
use Rattle.derivation.proofs.Sorted.{Ascending}
use Rattle.derivation.proofs.Trees.{trees_derive}
use Rattle.phrases.specs.Phrases.{plain, Says, word_order, Precedes}
use Rattle.phrases.specs.Enumeration.{any_tree, says, strings, passing, is_less}
use Rattle.phrases.proofs.Order.{order_lawful}

-- what passes a test
pub passing_mem : (f : List ℕ → Bool) (l : List (List ℕ)) (z : List ℕ) → z ∈ passing f l ↔ (z ∈ l × (f z ≡ true))
unfolding passing keep_if
passing_mem f [] z = ((λ m. absurd (Memᴰ.not-nil m)), (λ m. absurd (Memᴰ.not-nil m.0)))
passing_mem f (x ∷ l) z = go (passing_mem f l z) (f x) refl
  where
    go : z ∈ passing f l ↔ (z ∈ l × (f z ≡ true)) → (b : Bool) → f x ≡ b
        → z ∈ (keep_if b (x ∷ []) ++ passing f l) ↔ (z ∈ (x ∷ l) × (f z ≡ true))
    go r true e = (
      (λ m. ⊎_elim (λ p. (Memᴰ.head p, ap f p ∙ e)) (λ n. (Memᴰ.tail (r.0 n).0, (r.0 n).1)) (Memᴰ.cases_cons m)),
      (λ m. ⊎_elim Memᴰ.head (λ n. Memᴰ.tail (r.1 (n, m.1))) (Memᴰ.cases_cons m.0)),
    )
    go r false e = (
      (λ m. (Memᴰ.tail (r.0 m).0, (r.0 m).1)),
      (λ m. ⊎_elim (λ p. absurd (true≢false (sym m.1 ∙ ap f p ∙ e))) (λ n. r.1 (n, m.1)) (Memᴰ.cases_cons m.0)),
    )

pub passing_ascending : (f : List ℕ → Bool) (l : List (List ℕ)) → Ascending word_order l → Ascending word_order (passing f l)
unfolding passing keep_if
passing_ascending f [] a = tt
passing_ascending f (x ∷ l) (a, b) = go (f x) (passing_ascending f l b)
  where
    go : (t : Bool) → Ascending word_order (passing f l) → Ascending word_order (keep_if t (x ∷ []) ++ passing f l)
    go true r = ((λ y m. a y ((passing_mem f l y).0 m).0), r)
    go false r = r

-- all strings of words below W
abbrev pub Below : ℕ → List ℕ → Type 0
Below W [] = Unit {0}
Below W (x ∷ s) = (x < W) × Below W s

map_out : {A B : Type 0} (f : A → B) (l : List A) {z : B} → z ∈ map f l → (x : A) × (x ∈ l) × (z ≡ f x)
map_out f l m = let (k, e) = mem_at m in let (x, a, p) = map_at f l k e in (x, at_mem l k a, p)

map_in : {A B : Type 0} (f : A → B) (l : List A) {x : A} → x ∈ l → f x ∈ map f l
map_in f l m = let (k, e) = mem_at m in at_mem (map f l) k (at_map f l k e)

pub strings_mem : (W n : ℕ) (s : List ℕ) → s ∈ strings W n ↔ ((length s ≡ n) × Below W s)
unfolding strings
strings_mem W zero [] = ((λ m. (refl, tt)), λ m. Memᴰ.head refl)
strings_mem W zero (x ∷ s) = ((λ m. absurd (cons≢nil (Memᴰ.eq_of_singleton m))), λ m. absurd (omega arith))
strings_mem W (suc n) [] =
    ((λ m. let (x, h, k) = below_out _ W m in absurd (nil≢cons (map_out _ (strings W n) k).2)), λ m. absurd (omega arith))
strings_mem W (suc n) (x ∷ s) = (to (strings_mem W n s).0, from (strings_mem W n s).1)
  where
    to : (s ∈ strings W n → (length s ≡ n) × Below W s) → (x ∷ s) ∈ each_below (λ x. map (λ s. x ∷ s) (strings W n)) W → (suc (length s) ≡ suc n)
        × Below W (x ∷ s)
    to r m =
        let (y, h, k) = below_out (λ x. map (λ s. x ∷ s) (strings W n)) W m in
        let (t, i, e) = map_out (λ s. y ∷ s) (strings W n) k in
        let p : x ≡ y = cc in
        let q : s ≡ t = cc in
        let (l, b) = r (Memᴰ.cast q i) in
        (ap suc l, (rw p h, b))

    from : ((length s ≡ n) × Below W s → s ∈ strings W n) → (suc (length s) ≡ suc n) × Below W (x ∷ s)
        → (x ∷ s) ∈ each_below (λ x. map (λ s. x ∷ s) (strings W n)) W
    from r (l, (h, b)) = below_in (λ x. map (λ s. x ∷ s) (strings W n)) W x h (map_in (λ s. x ∷ s) (strings W n) (r (omega arith, b)))

cons_ascending : (x : ℕ) (l : List (List ℕ)) → Ascending word_order l → Ascending word_order (map (λ s. x ∷ s) l)
unfolding word_order
cons_ascending x [] a = tt
cons_ascending x (s ∷ l) (a, b) =
    ((λ z m. let (t, k, e) = map_out (λ s. x ∷ s) l m in rw e (▸-second _ _ (compare_self x) (a t k))), cons_ascending x l b)

append_ascending : (l m : List (List ℕ)) → Ascending word_order l → Ascending word_order m → ((s t : List ℕ) → s ∈ l → t ∈ m → Precedes s t)
    → Ascending word_order (l ++ m)
append_ascending [] m a b h = b
append_ascending (x ∷ l) m (p, a) b h = (
  (λ y k. ⊎_elim (p y) (h x y (Memᴰ.head refl)) (Memᴰ.append_cases l k)),
  append_ascending l m a b (λ s t k. h s t (Memᴰ.tail k)),
)

below_ascending : (f : ℕ → List (List ℕ)) (n : ℕ) → ((x : ℕ) → Ascending word_order (f x))
    → ((x y : ℕ) (s t : List ℕ) → x < y → s ∈ f x → t ∈ f y → Precedes s t) → Ascending word_order (each_below f n)
unfolding each_below
below_ascending f zero h k = tt
below_ascending f (suc n) h k =
    append_ascending (f 0) (each_below (λ x. f (suc x)) n) (h 0)
    (below_ascending (λ x. f (suc x)) n (λ x. h (suc x)) (λ x y s t l. k (suc x) (suc y) s t (omega arith)))
    (λ s t p q. let (y, b, q') = below_out (λ x. f (suc x)) n q in k 0 (suc y) s t (omega arith) p q')

pub strings_ascending : (W n : ℕ) → Ascending word_order (strings W n)
unfolding strings word_order
strings_ascending W zero = ((λ y m. absurd (Memᴰ.not-nil m)), tt)
strings_ascending W (suc n) =
    below_ascending (λ x. map (λ s. x ∷ s) (strings W n)) W (λ x. cons_ascending x (strings W n) (strings_ascending W n)) apart
  where
    apart : (x y : ℕ) (s t : List ℕ) → x < y → s ∈ map (λ s. x ∷ s) (strings W n) → t ∈ map (λ s. y ∷ s) (strings W n) → Precedes s t
    apart x y s t h p q =
        let (s', k, e) = map_out (λ s. x ∷ s) (strings W n) p in
        let (t', k', e') = map_out (λ s. y ∷ s) (strings W n) q in
        rw (e, e') (▸-first _ _ (compare_lt x y h))

-- the test tells what is derived
any_mem : (l : List Tree) → any_tree l ≡ true → (t : Tree) × t ∈ l
any_mem [] e = absurd (true≢false (sym e))
any_mem (t ∷ l) e = (t, Memᴰ.head refl)

mem_any : {t : Tree} (l : List Tree) → t ∈ l → any_tree l ≡ true
mem_any [] m = absurd (Memᴰ.not-nil m)
mem_any (t ∷ l) m = refl

pub says_true : (g : Grammar) (ws : List ℕ) → (says g ws ≡ true) ↔ Says g ws
unfolding says
says_true g ws =
    let es = edges (plain ws) in
    let k = length (plain ws) in (
      (λ e. let (t, m) = any_mem (trees g es (symbol_of 0) 0 k) e in (t, (trees_derive g es (symbol_of 0) 0 k t).0 m)),
      (λ d. mem_any (trees g es (symbol_of 0) 0 k) ((trees_derive g es (symbol_of 0) 0 k d.0).1 d.1)),
    )

-- the test tells what comes before what
pub less_precedes : (s t : List ℕ) → is_less (word_order s t) ≡ true → Precedes s t
less_precedes s t e = go (word_order s t) e
  where
    go : (o : Ordering) → is_less o ≡ true → o ≡ Ordering.lt
    go Ordering.lt e = refl
    go Ordering.eq e = absurd (true≢false (sym e))
    go Ordering.gt e = absurd (true≢false (sym e))

pub precedes_less : (s t : List ℕ) → Precedes s t → is_less (word_order s t) ≡ true
precedes_less s t e = rw e

-- in an ascending list the first that comes after element k is element k + 1
passing_all : (f : List ℕ → Bool) (l : List (List ℕ)) → ((x : List ℕ) → x ∈ l → f x ≡ true) → passing f l ≡ l
unfolding passing keep_if
passing_all f [] h = refl
passing_all f (x ∷ l) h = rw (h x (Memᴰ.head refl), passing_all f l (λ y m. h y (Memᴰ.tail m)))

pub head_at : (l : List (List ℕ)) → head? l ≡ get_elem? l 0
head_at [] = refl
head_at (x ∷ l) = refl

pub above_at : (l : List (List ℕ)) (k : ℕ) (s : List ℕ) → Ascending word_order l → At l k s
    → head? (passing (λ t. is_less (word_order s t)) l) ≡ get_elem? l (suc k)
unfolding passing keep_if turned
above_at [] k s a e = absurd (none≢some e)
above_at (x ∷ l) zero s (a, b) e =
    let p : x ≡ s = cc in
    rw (p, order_lawful.self s, passing_all (λ t. is_less (word_order s t)) l (λ y m. precedes_less s y (rw p at (a y m)))) (head_at l)
above_at (x ∷ l) (suc k) s (a, b) e = rw (order_lawful.turn x s, a s (at_mem l k e)) (above_at l k s b e)

pub passing_none : (f : List ℕ → Bool) (l : List (List ℕ)) → get_elem? l 0 ≡ none → head? (passing f l) ≡ none
unfolding passing
passing_none f [] e = refl
passing_none f (x ∷ l) e = absurd (none≢some (sym e))
