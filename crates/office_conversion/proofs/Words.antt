-- A body's words, one after the other, and their symbols then.
use mathlib.Core.Path.{◌≡◌, refl, sym, ap, ◌∙◌}
use mathlib.Core.Bool.{Bool, true, false}
use mathlib.Core.List.{List, [], ◌∷◌, map}
use Prim.Native.Nat.{ℕ, zero, suc, ◌+◌, ◌-◌, ◌*◌, ◌≤◌, ◌<◌}
use native.Mathlib.Decide.{dec_lt}
use native.Mathlib.Omega.{arith}
use borrow.Author.Tests.{eq-eqb, ne_eqb}
use lib.Dec.{eqb}
use lib.ListN.{length, get_or, set, length-append, length-set}
use Rattle.bits.specs.Bits.{pick}
use Rattle.packing.specs.Meaning as M
use Rattle.packing.specs.Meaning.{word}
use Rattle.packing.specs.Store.{store_all}
use Rattle.packing.specs.declared.Word as W
use Rattle.packing.specs.declared.Rule as K
use Rattle.office.specs.Office.{Item, symbol, spoken}
use Rattle.office.specs.Sheet.{item_of}
use Rattle.office.specs.Flat.{item_at, items_at}
use Rattle.office.specs.Conversion.{Helper, for_word, place_of, with_word, with_words, named, helper_rules}
use Rattle.office.proofs.Steps.{place_within, word_known, word_fresh, place_stays, words_append}
use Rattle.office_conversion.specs.Pass.{rows_of, symbols_at, tag, Holds, WordsBelow}
use Rattle.office_conversion.proofs.Rows.{helpers_stored}
use Rattle.office_conversion.proofs.Table.{known_tag, tag_known, tag_unknown, table_more, place_past, place_own}

module _ {S R x : ℕ} {a : List ℕ} {hs : List Helper} {rs : List K.Rule} {t rules : List ℕ} {k : ℕ} (l : x < 200) (v : Holds S R a hs rs t rules k) where
  pub word_kept : (get_or t x 0 ≡ 0 → ⊥) → Holds S R a (with_word (word x) hs) rs t rules k
  word_kept f = rw (tag_known S x hs (λ e. f (v.table x l ∙ e))) v

  pub word_added : 1 ≤ S → get_or t x 0 ≡ 0 → {new : List ℕ} → new ≡ store_all rules (5 * (R + k)) (1 ∷ (S + k) ∷ 0 ∷ x ∷ 0 ∷ [])
      → Holds S R a (with_word (word x) hs) rs (set t x (S + k)) new (k + 1)
  unfolding rows_of helper_rules
  word_added s e h =
      let none_yet = tag_unknown S x hs s (sym (v.table x l) ∙ e) in
      rw (word_fresh (word x) hs none_yet) record {
        few = v.few;
        count = simp length-append (omega (arith, v.count));
        size = simp length-set v.size;
        table = rw v.count (table_more S x hs none_yet t v.size v.table l);
        array = helpers_stored v (for_word (word x) ∷ []) h;
      }

-- the items of a body that are words have helpers
abbrev Known : List Helper → List Item → Type 0
Known hs [] = Unit {0}
Known hs (symbol A ∷ l) = Known hs l
Known hs (spoken x ∷ l) = (place_of x hs < length hs) × Known hs l

known_word : (x : W.Word) (hs : List Helper) → place_of x (with_word x hs) < length (with_word x hs)
known_word x hs = go (dec_lt (place_of x hs) (length hs))
  where
    go : Dec (place_of x hs < length hs) → place_of x (with_word x hs) < length (with_word x hs)
    go (yes l) = rw (word_known x hs l) l
    go (no l) =
        let e : place_of x hs ≡ length hs = omega (arith, l, place_within x hs) in
        rw (word_fresh x hs e) (omega (arith, place_past x hs (for_word x ∷ []) e, place_own x, length-append hs (for_word x ∷ [])))

pub all_known : (l : List Item) (hs : List Helper) → Known (with_words l hs) l
unfolding with_words
all_known [] hs = tt
all_known (symbol A ∷ l) hs = all_known l hs
all_known (spoken x ∷ l) hs =
    let (more, e) = words_append l (with_word x hs) in
    let k = known_word x hs in
    (rw e (omega (arith, k, place_stays x (with_word x hs) more k, length-append (with_word x hs) more)), all_known l (with_word x hs))

-- and the table has their symbols
module _ (s t : List ℕ) (S : ℕ) (hs : List Helper) (table : (x : ℕ) → x < 200 → get_or t x 0 ≡ tag S hs x) where
  symbol_named : (k v : ℕ) → Known hs (item_of k v ∷ []) → WordsBelow (item_of k v ∷ []) → M.symbol_of (pick (eqb k 0) v (get_or t v 0))
      ≡ named S hs (item_of k v)
  unfolding named
  symbol_named k v a b = go (eqb k 0) a b
    where
      go : (c : Bool) → Known hs (pick c (symbol (M.symbol_of v)) (spoken (word v)) ∷ []) → WordsBelow (pick c (symbol (M.symbol_of v)) (spoken (word v)) ∷ [])
          → M.symbol_of (pick c v (get_or t v 0)) ≡ named S hs (pick c (symbol (M.symbol_of v)) (spoken (word v)))
      go true a b = refl
      go false a b = ap M.symbol_of (table v b.0 ∙ known_tag S v hs a.0)

  first_known : (x : Item) (l : List Item) → Known hs (x ∷ l) → Known hs (x ∷ []) × Known hs l
  first_known (symbol A) l h = (tt, h)
  first_known (spoken y) l h = ((h.0, tt), h.1)

  pub symbols_named : (p n : ℕ) → Known hs (items_at s p n) → WordsBelow (items_at s p n) → symbols_at s t p n ≡ map (named S hs) (items_at s p n)
  unfolding symbols_at items_at
  symbols_named p zero a b = refl
  symbols_named p (suc n) a b =
      let (a₁, a₂) = first_known (item_at s p) (items_at s (p + 2) n) a in
      let (b₁, b₂) = first_below (item_at s p) (items_at s (p + 2) n) b in
      rw (symbol_named (get_or s p 0) (get_or s (p + 1) 0) a₁ b₁, symbols_named (p + 2) n a₂ b₂)
    where
      first_below : (x : Item) (l : List Item) → WordsBelow (x ∷ l) → WordsBelow (x ∷ []) × WordsBelow l
      first_below (symbol A) l h = (tt, h)
      first_below (spoken y) l h = ((h.0, tt), h.1)

-- the turns of the loop over a body's items
first_words : (x : Item) (l : List Item) (hs : List Helper) → with_words l (with_words (x ∷ []) hs) ≡ with_words (x ∷ l) hs
unfolding with_words
first_words (symbol A) l hs = refl
first_words (spoken x) l hs = refl

pub below_first : (x : Item) (l : List Item) → WordsBelow (x ∷ l) → WordsBelow (x ∷ []) × WordsBelow l
below_first (symbol A) l h = (tt, h)
below_first (spoken y) l h = ((h.0, tt), h.1)

module _ (s : List ℕ) (p n : ℕ) where
  abbrev pub Rest : ℕ → List Item
  Rest j = items_at s (p + 2 * j) (n - j)

  pub rest_start : Rest 0 ≡ items_at s p n
  rest_start =
      let b : p + 2 * 0 ≡ p = omega arith in
      let c : n - 0 ≡ n = omega arith in
      rw (b, c)

  pub rest_more : (j : ℕ) → j < n → Rest j ≡ item_at s (p + 2 * j) ∷ Rest (j + 1)
  unfolding items_at
  rest_more j l =
      let a : n - j ≡ suc (n - (j + 1)) = omega arith in
      let e : p + 2 * (j + 1) ≡ p + 2 * j + 2 = omega arith in
      rw (a, e)

  pub words_more : (j : ℕ) → j < n → (hs : List Helper) → with_words (Rest (j + 1)) (with_words (item_at s (p + 2 * j) ∷ []) hs) ≡ with_words (Rest j) hs
  words_more j l hs = rw (rest_more j l) (first_words (item_at s (p + 2 * j)) (Rest (j + 1)) hs)

  pub words_end : (j : ℕ) → n ≤ j → (hs : List Helper) → with_words (Rest j) hs ≡ hs
  unfolding items_at with_words
  words_end j l hs = let z : n - j ≡ 0 = omega arith in rw z

-- one item
module _ (S R : ℕ) (a : List ℕ) (hs : List Helper) (rs : List K.Rule) (t rules : List ℕ) (k : ℕ) where
  pub symbol_passed : (kind v : ℕ) → kind ≡ 0 → Holds S R a hs rs t rules k → Holds S R a (with_words (item_of kind v ∷ []) hs) rs t rules k
  unfolding with_words
  symbol_passed kind v e h = rw (eq-eqb kind 0 e) h

  pub word_passed : (kind v : ℕ) → (kind ≡ 0 → ⊥) → Holds S R a (with_word (word v) hs) rs t rules k
      → Holds S R a (with_words (item_of kind v ∷ []) hs) rs t rules k
  unfolding with_words
  word_passed kind v e h = rw (ne_eqb kind 0 e) h

pub word_below : (kind v : ℕ) → (kind ≡ 0 → ⊥) → WordsBelow (item_of kind v ∷ []) → v < 200
word_below kind v e h = go (eqb kind 0) (ne_eqb kind 0 e) h
  where
    go : (b : Bool) → b ≡ false → WordsBelow (pick b (symbol (M.symbol_of v)) (spoken (word v)) ∷ []) → v < 200
    go true e h = let z : ◌≡◌ {A = ℕ} 0 1 = cc in absurd (omega arith)
    go false e h = h.0
