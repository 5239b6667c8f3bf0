-- What the conversion's helpers stand for: each symbol of the result stands for a list of items, and each office rule becomes a
-- rule whose parts stand for its items.
use mathlib.Core.Path.{◌≡◌, refl, ap, subst}
use mathlib.Core.Bool.{Bool, true, false}
use mathlib.Core.Logic.{◌⊎◌, inl, inr, ⊎_elim}
use mathlib.Core.Option.{some}
use mathlib.Core.List.{List, [], ◌∷◌, ◌++◌, map}
use Prim.Native.Nat.{ℕ, zero, suc, ◌+◌, ◌<◌}
use native.Mathlib.Nat.{add-zero}
use native.Mathlib.Omega.{arith}
use borrow.Author.Tests.{eq-eqb, eqb-true}
use lib.ListN.{length}
use Rattle.bits.specs.Bits.{pick}
use Rattle.packing.specs.declared.Sym.{Sym}
use Rattle.packing.specs.declared.Word as W
use Rattle.packing.specs.declared.Rule as R
use Rattle.packing.specs.declared.Rule.TheVariants.{Pair, Word}
use Rattle.derivation.specs.Derivation.{At}
use Rattle.derivation.proofs.Lists.{none≢some, at_length}
use Rattle.derivation.proofs.Trees.{same_word}
use Rattle.office_theory.proofs.Places.{at_left, at_right, at_cases}
use Rattle.office.specs.Office.{Item, symbol, spoken, OfficeRule, rule, ItemsWithin, RuleWithin, RulesWithin}
use Rattle.office.specs.Conversion.{
  Helper,
  for_word,
  joins,
  helper,
  is_for,
  place_of,
  with_word,
  with_words,
  named,
  chain_top,
  chain,
  pair_rule,
  with_chain,
  becomes,
  after,
  rules_behind,
  helpers_behind,
}

-- what has a place keeps it
abbrev pub Keeps : List Helper → List Helper → Type 0
Keeps hs hs' = (k : ℕ) (h : Helper) → At hs k h → At hs' k h

-- a word has a helper
abbrev pub Has : List Helper → Item → Type 0
Has hs (symbol A) = Unit {0}
Has hs (spoken x) = (k : ℕ) × At hs k (for_word x)

abbrev pub HasAll : List Helper → List Item → Type 0
HasAll hs [] = Unit {0}
HasAll hs (x ∷ l) = Has hs x × HasAll hs l

is_for_lem : (x : W.Word) (h : Helper) → is_for x h ≡ true → h ≡ for_word x
is_for_lem x (for_word y) e = ap for_word (same_word y x (eqb-true y.0 x.0 e))
is_for_lem x (joins A B) e = let z : ◌≡◌ {A = ℕ} 0 1 = cc in absurd (omega arith)

for_is : (x : W.Word) (h : Helper) → h ≡ for_word x → is_for x h ≡ true
for_is x h e = rw e (eq-eqb x.0 x.0 refl)

word_keeps : (x : W.Word) (hs : List Helper) → Keeps hs (with_word x hs)
unfolding with_word
word_keeps x [] k h e = absurd (none≢some e)
word_keeps x (h' ∷ hs) zero h e = e
word_keeps x (h' ∷ hs) (suc k) h e = go (is_for x h') (word_keeps x hs k h e)
  where
    go : (b : Bool) → At (with_word x hs) k h → At (pick b hs (with_word x hs)) k h
    go true f = e
    go false f = f

word_has : (x : W.Word) (hs : List Helper) → (k : ℕ) × At (with_word x hs) k (for_word x)
unfolding with_word
word_has x [] = (0, refl)
word_has x (h ∷ hs) = go (is_for x h) refl (word_has x hs)
  where
    go : (b : Bool) → is_for x h ≡ b → (k : ℕ) × At (with_word x hs) k (for_word x)
        → (k : ℕ) × At (h ∷ pick b hs (with_word x hs)) k (for_word x)
    go true e f = (0, ap some (is_for_lem x h e))
    go false e (k, f) = (suc k, f)

-- what is new is the word's
word_new : (x : W.Word) (hs : List Helper) (k : ℕ) (h : Helper) → At (with_word x hs) k h → At hs k h ⊎ (h ≡ for_word x)
unfolding with_word
word_new x [] zero h e = inr (cc)
word_new x [] (suc k) h e = absurd (none≢some e)
word_new x (h' ∷ hs) zero h e = inl e
word_new x (h' ∷ hs) (suc k) h e = go (is_for x h') e (word_new x hs k h)
  where
    go : (b : Bool) → At (pick b hs (with_word x hs)) k h → (At (with_word x hs) k h → At hs k h ⊎ (h ≡ for_word x))
        → At hs k h ⊎ (h ≡ for_word x)
    go true e f = inl e
    go false e f = f e

words_keep : (l : List Item) (hs : List Helper) → Keeps hs (with_words l hs)
unfolding with_words
words_keep [] hs k h e = e
words_keep (symbol A ∷ l) hs k h e = words_keep l hs k h e
words_keep (spoken x ∷ l) hs k h e = words_keep l (with_word x hs) k h (word_keeps x hs k h e)

words_have : (l : List Item) (hs : List Helper) → HasAll (with_words l hs) l
unfolding with_words
words_have [] hs = tt
words_have (symbol A ∷ l) hs = (tt, words_have l hs)
words_have (spoken x ∷ l) hs =
    let (k, e) = word_has x hs in ((k, words_keep l (with_word x hs) k (for_word x) e), words_have l (with_word x hs))

-- a word's place holds its helper
placed : (x : W.Word) (hs : List Helper) (k : ℕ) → At hs k (for_word x) → At hs (place_of x hs) (for_word x)
unfolding place_of
placed x [] k e = absurd (none≢some e)
placed x (h ∷ hs) k e = go (is_for x h) refl k e (placed x hs)
  where
    go : (b : Bool) → is_for x h ≡ b → (k : ℕ) → At (h ∷ hs) k (for_word x)
        → ((k : ℕ) → At hs k (for_word x) → At hs (place_of x hs) (for_word x))
        → At (h ∷ hs) (pick b 0 (suc (place_of x hs))) (for_word x)
    go true f k e more = ap some (is_for_lem x h f)
    go false f zero e more =
        let p : h ≡ for_word x = cc in
        let q : is_for x h ≡ true = for_is x h p in
        let z : ◌≡◌ {A = ℕ} 0 1 = cc in
        absurd (omega arith)
    go false f (suc k) e more = more k e

module _ (S : ℕ) (H : List Helper) where
  -- Spells l Y: the symbol Y stands for the items l
  pub data Spells : List Item → Sym → Type 0 where
    a_symbol : {A : Sym} → A.0 < S → Spells (symbol A ∷ []) A
    a_word : {x : W.Word} (k : ℕ) → At H k (for_word x) → Spells (spoken x ∷ []) (helper S k)
    several : {x y : Item} {l : List Item} {X Z : Sym} (k : ℕ) → At H k (joins X Z) → Spells (x ∷ []) X → Spells (y ∷ l) Z
        → Spells (x ∷ y ∷ l) (helper S k)

  -- an office rule and its rule in the result
  pub data Becomes : OfficeRule → R.Rule → Type 0 where
    word_rule : {A : Sym} {w : ℕ} {x : W.Word} → Becomes (rule A w (spoken x ∷ [])) (Word A x w)
    pair_rule_lem : {A X Z : Sym} {w : ℕ} {x y : Item} {l : List Item} → Spells (x ∷ []) X → Spells (y ∷ l) Z
        → Becomes (rule A w (x ∷ y ∷ l)) (Pair A X Z w)

  module _ (Ws : ℕ) where
    named_spells : (hs : List Helper) → Keeps hs H → (x : Item) → Has hs x → ItemsWithin S Ws (x ∷ [])
        → Spells (x ∷ []) (named S hs x)
    unfolding named
    named_spells hs keeps (symbol A) a v = a_symbol v.0
    named_spells hs keeps (spoken x) (k, e) v = a_word (place_of x hs) (keeps (place_of x hs) (for_word x) (placed x hs k e))

    chain_spells : (hs : List Helper) → Keeps hs H → (x : Item) (l : List Item) (m : ℕ) → HasAll hs (x ∷ l)
        → ItemsWithin S Ws (x ∷ l)
        → ((k : ℕ) (h : Helper) → At (chain S m (map (named S hs) (x ∷ l))) k h → At H (m + k) h)
        → Spells (x ∷ l) (chain_top S m (map (named S hs) (x ∷ l)))
    unfolding chain chain_top
    chain_spells hs keeps x [] m a v there = named_spells hs keeps x a.0 (v.0, tt)
    chain_spells hs keeps x (y ∷ l) m a v there =
        let here : At H (m + 0) (joins (named S hs x) (chain_top S (suc m) (map (named S hs) (y ∷ l)))) = there 0 _ refl in
        several m (rw (add-zero m) at here) (named_spells hs keeps x a.0 (v.0, tt))
        (chain_spells hs keeps y l (suc m) a.1 v.1 (λ k h e.
        let z : m + suc k ≡ suc m + k = omega arith in rw z at (there (suc k) h e)))

    after_keeps : (hs : List Helper) (r : OfficeRule) → Keeps hs (after S hs r)
    unfolding after with_chain
    after_keeps hs (rule A w []) k h e = e
    after_keeps hs (rule A w (x ∷ [])) k h e = e
    after_keeps hs (rule A w (x ∷ y ∷ l)) k h e =
        at_left (with_words (x ∷ y ∷ l) hs) _ k (words_keep (x ∷ y ∷ l) hs k h e)

    pub behind_keeps : (hs : List Helper) (rs : List OfficeRule) → Keeps hs (helpers_behind S hs rs)
    unfolding helpers_behind
    behind_keeps hs [] k h e = e
    behind_keeps hs (r ∷ rs) k h e = behind_keeps (after S hs r) rs k h (after_keeps hs r k h e)

    rule_becomes : (hs : List Helper) (r : OfficeRule) → RuleWithin S Ws r → Keeps (after S hs r) H → Becomes r (becomes S hs r)
    unfolding becomes after pair_rule with_chain
    rule_becomes hs (rule A w []) v keeps = absurd v.2
    rule_becomes hs (rule A w (symbol B ∷ [])) v keeps = absurd v.2
    rule_becomes hs (rule A w (spoken x ∷ [])) v keeps = word_rule
    rule_becomes hs (rule A w (x ∷ y ∷ l)) v keeps = go (with_words (x ∷ y ∷ l) hs) (words_have (x ∷ y ∷ l) hs) keeps
      where
        go : (ws : List Helper) → HasAll ws (x ∷ y ∷ l) → Keeps (ws ++ chain S (length ws) (map (named S ws) (y ∷ l))) H
            → Becomes (rule A w (x ∷ y ∷ l)) (Pair A (named S ws x) (chain_top S (length ws) (map (named S ws) (y ∷ l))) w)
        go ws a keeps =
            let words : Keeps ws H = λ k h e. keeps k h (at_left ws _ k e) in
            pair_rule_lem (named_spells ws words x a.0 (v.3.0, tt))
            (chain_spells ws words y l (length ws) a.1 v.3.1 (λ k h e. keeps (length ws + k) h (at_right ws _ k e)))

    pub rules_become : (hs : List Helper) (rs : List OfficeRule) → RulesWithin S Ws rs → Keeps (helpers_behind S hs rs) H → (r : ℕ)
        {q : OfficeRule} → At rs r q → (c : R.Rule) × At (rules_behind S hs rs) r c × Becomes q c
    unfolding rules_behind helpers_behind
    rules_become hs [] v keeps r e = absurd (none≢some e)
    rules_become hs (p ∷ rs) v keeps zero {q} e =
        let z : p ≡ q = cc in
        let b = rule_becomes hs p v.0 (λ k h f. keeps k h (behind_keeps (after S hs p) rs k h f)) in
        (becomes S hs p, refl, subst (λ q. Becomes q (becomes S hs p)) z b)
    rules_become hs (p ∷ rs) v keeps (suc r) e = rules_become (after S hs p) rs v.1 keeps r e

    -- a helper has its word from a body, or its parts stand for items
    pub data Meant : Helper → Type 0 where
      for_word_lem : {x : W.Word} → x.0 < Ws → Meant (for_word x)
      for_items : {x y : Item} {l : List Item} {X Z : Sym} → Spells (x ∷ []) X → Spells (y ∷ l) Z → Meant (joins X Z)

    abbrev AllMeant : List Helper → Type 0
    AllMeant hs = (k : ℕ) (h : Helper) → At hs k h → Meant h

    words_meant : (l : List Item) → ItemsWithin S Ws l → (hs : List Helper) → AllMeant hs → AllMeant (with_words l hs)
    unfolding with_words
    words_meant [] v hs a = a
    words_meant (symbol A ∷ l) v hs a = words_meant l v.1 hs a
    words_meant (spoken x ∷ l) v hs a =
        words_meant l v.1 (with_word x hs) (λ k h e. ⊎_elim (a k h) (λ p. rw p (for_word_lem v.0)) (word_new x hs k h e))

    chain_meant : (hs : List Helper) → Keeps hs H → (x : Item) (l : List Item) (m : ℕ) → HasAll hs (x ∷ l)
        → ItemsWithin S Ws (x ∷ l)
        → ((k : ℕ) (h : Helper) → At (chain S m (map (named S hs) (x ∷ l))) k h → At H (m + k) h)
        → AllMeant (chain S m (map (named S hs) (x ∷ l)))
    unfolding chain
    chain_meant hs keeps x [] m a v there k h e = absurd (none≢some e)
    chain_meant hs keeps x (y ∷ l) m a v there k h e = go k e (chain_meant hs keeps y l (suc m) a.1 v.1 more)
      where
        more : (k : ℕ) (h : Helper) → At (chain S (suc m) (map (named S hs) (y ∷ l))) k h → At H (suc m + k) h
        more k h e = let z : m + suc k ≡ suc m + k = omega arith in rw z at (there (suc k) h e)

        go : (k : ℕ) → At (chain S m (map (named S hs) (x ∷ y ∷ l))) k h → AllMeant (chain S (suc m) (map (named S hs) (y ∷ l))) → Meant h
        go zero e f =
            let p : h ≡ joins (named S hs x) (chain_top S (suc m) (map (named S hs) (y ∷ l))) = cc in
            rw p (for_items (named_spells hs keeps x a.0 (v.0, tt)) (chain_spells hs keeps y l (suc m) a.1 v.1 more))
        go (suc k) e f = f k h e

    after_meant : (hs : List Helper) (r : OfficeRule) → RuleWithin S Ws r → Keeps (after S hs r) H → AllMeant hs
        → AllMeant (after S hs r)
    unfolding after with_chain
    after_meant hs (rule A w []) v keeps a = a
    after_meant hs (rule A w (x ∷ [])) v keeps a = a
    after_meant hs (rule A w (x ∷ y ∷ l)) v keeps a =
        go (with_words (x ∷ y ∷ l) hs) (words_have (x ∷ y ∷ l) hs) keeps (words_meant (x ∷ y ∷ l) v.3 hs a)
      where
        go : (ws : List Helper) → HasAll ws (x ∷ y ∷ l) → Keeps (ws ++ chain S (length ws) (map (named S ws) (y ∷ l))) H
            → AllMeant ws → AllMeant (ws ++ chain S (length ws) (map (named S ws) (y ∷ l)))
        go ws a keeps b k h e =
            let words : Keeps ws H = λ k h e. keeps k h (at_left ws _ k e) in
            ⊎_elim (b k h) (λ p. chain_meant ws words y l (length ws) a.1 v.3.1
            (λ k h e. keeps (length ws + k) h (at_right ws _ k e)) p.0 h p.2)
            (at_cases ws (chain S (length ws) (map (named S ws) (y ∷ l))) k e)

    pub behind_meant : (hs : List Helper) (rs : List OfficeRule) → RulesWithin S Ws rs → Keeps (helpers_behind S hs rs) H
        → AllMeant hs → AllMeant (helpers_behind S hs rs)
    unfolding helpers_behind
    behind_meant hs [] v keeps a = a
    behind_meant hs (r ∷ rs) v keeps a =
        behind_meant (after S hs r) rs v.1 keeps
        (after_meant hs r v.0 (λ k h f. keeps k h (behind_keeps (after S hs r) rs k h f)) a)

  -- each is a symbol of the result
  pub spells_below : {l : List Item} {A : Sym} → Spells l A → A.0 < S + length H
  spells_below (a_symbol h) = omega arith
  spells_below (a_word k a) = omega (arith, at_length H k a)
  spells_below (several k a s t) = omega (arith, at_length H k a)
