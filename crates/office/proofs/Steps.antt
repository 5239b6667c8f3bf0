-- The conversion in the steps of one pass: rules one after the other, a word that is known or new, a symbol that keeps its
-- number, a chain's length, the sizes.
use mathlib.Core.Path.{◌≡◌, refl, sym, ap, ◌∙◌}
use mathlib.Core.Bool.{Bool, true, false}
use mathlib.Core.List.{List, [], ◌∷◌, ◌++◌, append-nil, append_assoc}
use Prim.Native.Nat.{ℕ, suc, ◌+◌, ◌≤◌, ◌<◌}
use native.Mathlib.Omega.{arith}
use lib.ListN.{length, length-append}
use Rattle.bits.specs.Bits.{pick}
use Rattle.packing.specs.declared.Sym.{Sym}
use Rattle.packing.specs.declared.Word as W
use Rattle.office.specs.Office.{Item, symbol, spoken, OfficeRule, Office}
use Rattle.office.specs.Conversion.{
  Helper,
  for_word,
  is_for,
  place_of,
  with_word,
  with_words,
  chain,
  after,
  rules_behind,
  helpers_behind,
  helpers,
  helper_rules,
  convert,
}

-- rules behind rules
pub rules_then : (S : ℕ) (hs : List Helper) (qs rs : List OfficeRule)
    → rules_behind S hs (qs ++ rs) ≡ rules_behind S hs qs ++ rules_behind S (helpers_behind S hs qs) rs
unfolding rules_behind helpers_behind
rules_then S hs [] rs = refl
rules_then S hs (q ∷ qs) rs = rw (rules_then S (after S hs q) qs rs)

pub helpers_then : (S : ℕ) (hs : List Helper) (qs rs : List OfficeRule)
    → helpers_behind S hs (qs ++ rs) ≡ helpers_behind S (helpers_behind S hs qs) rs
unfolding helpers_behind
helpers_then S hs [] rs = refl
helpers_then S hs (q ∷ qs) rs = helpers_then S (after S hs q) qs rs

-- a word whose place is among the helpers is known, and any other has the place behind them and is new
pub place_within : (x : W.Word) (hs : List Helper) → place_of x hs ≤ length hs
unfolding place_of
place_within x [] = omega arith
place_within x (h ∷ hs) = go (is_for x h) (place_within x hs)
  where
    go : (b : Bool) → place_of x hs ≤ length hs → pick b 0 (suc (place_of x hs)) ≤ suc (length hs)
    go true e = omega arith
    go false e = omega arith

pub word_known : (x : W.Word) (hs : List Helper) → place_of x hs < length hs → with_word x hs ≡ hs
unfolding place_of with_word
word_known x [] e = absurd (omega arith)
word_known x (h ∷ hs) e = go (is_for x h) e (word_known x hs)
  where
    go : (b : Bool) → pick b 0 (suc (place_of x hs)) < suc (length hs) → (place_of x hs < length hs → with_word x hs ≡ hs)
        → h ∷ pick b hs (with_word x hs) ≡ h ∷ hs
    go true e f = refl
    go false e f = rw (f (omega arith))

pub word_fresh : (x : W.Word) (hs : List Helper) → place_of x hs ≡ length hs → with_word x hs ≡ hs ++ (for_word x ∷ [])
unfolding place_of with_word
word_fresh x [] e = refl
word_fresh x (h ∷ hs) e = go (is_for x h) e (word_fresh x hs)
  where
    go : (b : Bool) → pick b 0 (suc (place_of x hs)) ≡ suc (length hs)
        → (place_of x hs ≡ length hs → with_word x hs ≡ hs ++ (for_word x ∷ []))
        → h ∷ pick b hs (with_word x hs) ≡ h ∷ (hs ++ (for_word x ∷ []))
    go true e f = absurd (omega arith)
    go false e f = rw (f (omega arith))

-- further helpers leave a known word its place
pub place_stays : (x : W.Word) (hs more : List Helper) → place_of x hs < length hs → place_of x (hs ++ more) ≡ place_of x hs
unfolding place_of
place_stays x [] more e = absurd (omega arith)
place_stays x (h ∷ hs) more e = go (is_for x h) e (place_stays x hs more)
  where
    go : (b : Bool) → pick b 0 (suc (place_of x hs)) < suc (length hs)
        → (place_of x hs < length hs → place_of x (hs ++ more) ≡ place_of x hs)
        → pick b 0 (suc (place_of x (hs ++ more))) ≡ pick b 0 (suc (place_of x hs))
    go true e f = refl
    go false e f = rw (f (omega arith))

word_appends : (x : W.Word) (hs : List Helper) → (more : List Helper) × (with_word x hs ≡ hs ++ more)
unfolding with_word
word_appends x [] = (for_word x ∷ [], refl)
word_appends x (h ∷ hs) = go (is_for x h) (word_appends x hs)
  where
    go : (b : Bool) → (more : List Helper) × (with_word x hs ≡ hs ++ more)
        → (more : List Helper) × (h ∷ pick b hs (with_word x hs) ≡ h ∷ (hs ++ more))
    go true f = ([], rw (append-nil hs))
    go false (more, e) = (more, rw e)

pub words_append : (l : List Item) (hs : List Helper) → (more : List Helper) × (with_words l hs ≡ hs ++ more)
unfolding with_words
words_append [] hs = ([], sym (append-nil hs))
words_append (symbol A ∷ l) hs = words_append l hs
words_append (spoken x ∷ l) hs =
    let (a, e) = word_appends x hs in
    let (b, f) = words_append l (with_word x hs) in
    (a ++ b, f ∙ ap (λ (z : List Helper). z ++ b) e ∙ append_assoc hs a b)

-- a helper less than symbols
pub chain_length : (S k : ℕ) (X : Sym) (l : List Sym) → length (chain S k (X ∷ l)) ≡ length l
unfolding chain
chain_length S k X [] = refl
chain_length S k X (Y ∷ l) = ap suc (chain_length S (suc k) Y l)

-- a rule for each of the office's, and one for each helper
pub rules_length : (S : ℕ) (hs : List Helper) (rs : List OfficeRule) → length (rules_behind S hs rs) ≡ length rs
unfolding rules_behind
rules_length S hs [] = refl
rules_length S hs (r ∷ rs) = ap suc (rules_length S (after S hs r) rs)

pub helpers_length : (S k : ℕ) (hs : List Helper) → length (helper_rules S k hs) ≡ length hs
unfolding helper_rules
helpers_length S k [] = refl
helpers_length S k (h ∷ hs) = ap suc (helpers_length S (suc k) hs)

-- the result's sizes
pub result_symbols : (o : Office) → (convert o).symbols ≡ o.symbols + length (helpers o)
unfolding convert
result_symbols o = refl

pub result_words : (o : Office) → (convert o).words ≡ o.words
unfolding convert
result_words o = refl

pub result_rules : (o : Office) → length (convert o).rules ≡ length o.rules + length (helpers o)
unfolding convert
result_rules o =
    length-append (rules_behind o.symbols [] o.rules) (helper_rules o.symbols 0 (helpers o))
    ∙ rw (rules_length o.symbols [] o.rules, helpers_length o.symbols 0 (helpers o))
