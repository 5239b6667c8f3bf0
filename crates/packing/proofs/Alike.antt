-- That each item is compared with the earlier ones says that no two are alike, since likeness is symmetric; and where likeness is
-- that of keys, an item is like an earlier one exactly if its key is one of theirs.
-- Assumes nothing.
use mathlib.Core.Path.{◌≡◌, refl, sym, ap, ◌∙◌}
use mathlib.Core.Bool.{Bool, true, false, false≢true}
use mathlib.Core.List.{List, [], ◌∷◌, ◌++◌, append_assoc, append-nil}
use Prim.Native.Nat.{ℕ, zero, suc, ◌+◌, ◌<◌}
use native.Mathlib.Numerals.{add-one}
use native.Mathlib.Decide.{ℕ_discrete}
use borrow.Author.Tests.{ne_eqb}
use lib.Dec.{eqb}
use lib.ListN.{length, take, set}
use lib.Seq.{take-suc-set}
use Rattle.bits.specs.Bits.{pick}
use Rattle.packing.specs.Parse.{Parse, parsed}
use Rattle.packing.specs.Source.{Source, Entry}
use Rattle.packing.specs.Alike.{any_like, unlike_from, NoTwo, All}
use Rattle.packing.proofs.Parse.{through, same_parsed, parsed_else}
use Rattle.packing.proofs.Taken.{Taken, all, taken_join, taken_split}

pub eqb_sym : (a b : ℕ) → eqb a b ≡ eqb b a
eqb_sym a b = go (ℕ_discrete a b)
  where
    go : Dec (a ≡ b) → eqb a b ≡ eqb b a
    go (yes e) = rw e
    go (no n) = ne_eqb a b n ∙ sym (ne_eqb b a (λ e. n (sym e)))

neither : (a b : Bool) → pick a true b ≡ false → (a ≡ false) × (b ≡ false)
neither true b e = absurd (false≢true (sym e))
neither false b e = (refl, e)

pick_swap : (a b c : Bool) → pick a true (pick b true c) ≡ pick b true (pick a true c)
pick_swap true true c = refl
pick_swap true false c = refl
pick_swap false b c = refl

module _ {A : Type 0} (like : A → A → Bool) where
  -- among one more
  pub like_more : (x y : A) (l : List A) → any_like like x (l ++ (y ∷ [])) ≡ pick (like x y) true (any_like like x l)
  unfolding any_like
  like_more x y [] = refl
  like_more x y (z ∷ l) = rw (like_more x y l) (pick_swap (like x z) (like x y) (any_like like x l))

  -- each of the items is compared with the earlier ones: with l and with those before it
  abbrev Fresh : List A → List A → Type 0
  Fresh l [] = Unit {0}
  Fresh l (x ∷ new) = (any_like like x l ≡ false) × Fresh (l ++ (x ∷ [])) new

  -- no item of the second list is like one of the first
  abbrev Apart : List A → List A → Type 0
  Apart l [] = Unit {0}
  Apart l (x ∷ new) = (any_like like x l ≡ false) × Apart l new

  apart_none : (new : List A) → Apart [] new
  unfolding any_like
  apart_none [] = tt
  apart_none (x ∷ new) = (refl, apart_none new)

  module _ (like-sym : (x y : A) → like x y ≡ like y x) where
    apart_out : (l : List A) (x : A) (new : List A) → Apart (l ++ (x ∷ [])) new → Apart l new × (any_like like x new ≡ false)
    unfolding any_like
    apart_out l x [] h = (tt, refl)
    apart_out l x (y ∷ new) (p, h) =
        let (a, b) = neither (like y x) (any_like like y l) (rw (like_more y x l) at p) in
        let (c, d) = apart_out l x new h in
        ((b, c), rw (like-sym x y, a, d))

    apart_in : (l : List A) (x : A) (new : List A) → Apart l new → any_like like x new ≡ false → Apart (l ++ (x ∷ [])) new
    unfolding any_like
    apart_in l x [] h q = tt
    apart_in l x (y ∷ new) (p, h) q =
        let (a, b) = neither (like x y) (any_like like x new) q in
        (rw (like_more y x l, like-sym y x, a, p), apart_in l x new h b)

    fresh_apart : (l new : List A) → Fresh l new → Apart l new × NoTwo like new
    fresh_apart l [] h = (tt, tt)
    fresh_apart l (x ∷ new) (p, h) =
        let (a, u) = fresh_apart (l ++ (x ∷ [])) new h in
        let (b, c) = apart_out l x new a in
        ((p, b), (c, u))

    apart_fresh : (l new : List A) → Apart l new → NoTwo like new → Fresh l new
    apart_fresh l [] h u = tt
    apart_fresh l (x ∷ new) (p, h) (q, u) = (p, apart_fresh (l ++ (x ∷ [])) new (apart_in l x new h q) u)

    fresh_unlike : (l : List A) → Fresh [] l → NoTwo like l
    fresh_unlike l h = (fresh_apart [] l h).1

    unlike_fresh : (l : List A) → NoTwo like l → Fresh [] l
    unlike_fresh l u = apart_fresh [] l (apart_none l) u

-- what is so of every item is so of each of a list
pub all_of : {A : Type 0} {P : A → Type 0} → ((x : A) → P x) → (l : List A) → All P l
all_of f [] = tt
all_of f (x ∷ l) = (f x, all_of f l)

-- items are read from a source, none like an earlier one, exactly if each is fresh and sound, and their entries are taken there
module _ {A : Type 0} (src : Source) (item : ℕ → Parse A) (like : A → A → Bool) (m : ℕ) (one : A → List Entry) (entries : List A → List Entry)
    (none : entries [] ≡ []) (cons : (x : A) (l : List A) → entries (x ∷ l) ≡ one x ++ entries l) (Sound : A → Type 0) where
  -- n items behind the earlier ones
  abbrev Behind : ℕ → List A → ℕ → List A → ℕ → Type 0
  Behind at l n r next = (new : List A) × (r ≡ l ++ new) × (length new ≡ n) × Fresh like l new × All Sound new × Taken src at (entries new) next

  unlike_out : ((at : ℕ) (x : A) (next : ℕ) → item at ≡ parsed x next → Sound x × Taken src at (one x) next) → (n at : ℕ) (l : List A) {r : List A} {next : ℕ}
      → unlike_from item like m n at l ≡ parsed r next → Behind at l n r next
  unfolding unlike_from
  unlike_out out zero at l e = same_parsed (Behind at l 0) e ([], sym (append-nil l), refl, tt, tt, rw none all)
  unlike_out out (suc n) at l {next = next} e =
      through (item at) _ e λ x mid p e.
      let (f, d) = parsed_else (any_like like x l) _ _ e in
      let (new, s, k, fresh, sound, t) = unlike_out out n mid (l ++ (x ∷ [])) d in
      let (o, w) = out at x mid p in
      (x ∷ new, rw append_assoc at s, ap suc k, (f, fresh), (o, sound), rw cons (taken_join w t))

  unlike_back : ((at : ℕ) (x : A) (next : ℕ) → Sound x → Taken src at (one x) next → item at ≡ parsed x next) → {at : ℕ} (l new : List A) {next : ℕ}
      → Fresh like l new → All Sound new → Taken src at (entries new) next → unlike_from item like m (length new) at l ≡ parsed (l ++ new) next
  unfolding unlike_from
  unlike_back back {at} l [] {next} f o t = go (rw none at t)
    where
      go : {at : ℕ} → Taken src at [] next → parsed l at ≡ parsed (l ++ []) next
      go all = rw append-nil
  unlike_back back {at} l (x ∷ new) {next = next} (p, f) (o, os) t =
      let (mid, a, b) = taken_split (one x) (rw cons at t) in
      rw (back at x mid o a, p, unlike_back back {at = mid} (l ++ (x ∷ [])) new {next = next} f os b, append_assoc)

  -- all items
  module _ (like-sym : (x y : A) → like x y ≡ like y x) where
    pub unlike_all : ((at : ℕ) (x : A) (next : ℕ) → item at ≡ parsed x next → Sound x × Taken src at (one x) next) → (n at : ℕ) {l : List A} {next : ℕ}
        → unlike_from item like m n at [] ≡ parsed l next → (length l ≡ n) × NoTwo like l × All Sound l × Taken src at (entries l) next
    unlike_all out n at e =
        let (new, s, k, fresh, sound, t) = unlike_out out n at [] e in
        rw s (k, fresh_unlike like like-sym new fresh, sound, t)

    pub all_unlike : ((at : ℕ) (x : A) (next : ℕ) → Sound x → Taken src at (one x) next → item at ≡ parsed x next) → {at : ℕ} (l : List A) {next : ℕ}
        → NoTwo like l → All Sound l → Taken src at (entries l) next → unlike_from item like m (length l) at [] ≡ parsed l next
    all_unlike back l u o t = unlike_back back [] l (unlike_fresh like like-sym l u) o t

-- items by their numbers, of which a key is made
module _ {A N : Type 0} (like : A → A → Bool) (item : N → A) (key : N → ℕ) (Sound : N → Type 0) where
  -- the keys of the items read so far tell which of them an item is like
  abbrev pub Keyed : List A → List ℕ → Type 0
  Keyed l keys = (n : N) → Sound n → any_like like (item n) l ≡ any_like eqb (key n) keys

  pub keyed_none : Keyed [] []
  unfolding any_like
  keyed_none n s = refl

  pub keyed_more : ((n m : N) → Sound n → Sound m → like (item n) (item m) ≡ eqb (key n) (key m)) → (l : List A) (keys : List ℕ) (i k : ℕ) (m : N)
      → Sound m → i < length keys → k ≡ key m → Keyed l (take i keys) → Keyed (l ++ (item m ∷ [])) (take (i + 1) (set keys i k))
  keyed_more by_key l keys i k m sm b e h n sn =
      rw (add-one i, take-suc-set keys i k b, like_more eqb, like_more like, by_key n m sn sm, h n sn, e)
