-- An office grammar in normal form: document 02, request N5. Helper symbols are numbered from S as they are met: rule by rule,
-- first a body's new words, in the items' order, then its chain. Stands on Office.
use Rattle.std.specs.Prelude.{Bool, true, false, List, [], ◌∷◌, ◌++◌, map, ℕ, suc, ◌+◌, eqb, length}
use Rattle.bits.specs.Bits.{pick}
use Rattle.packing.specs.declared.Sym.{Sym}
use Rattle.packing.specs.declared.Word as W
use Rattle.packing.specs.declared.Rule as R
use Rattle.packing.specs.declared.Rule.TheVariants.{Pair, Word}
use Rattle.packing.specs.Meaning.{symbol_of, word, Grammar, marked, Marked}
use Rattle.office.specs.Office.{Item, symbol, spoken, OfficeRule, rule, Office}

-- what a helper symbol stands for: a word, or two symbols joined. A list of helpers is in the order of their numbers
pub data Helper : Type 0 where
  for_word : W.Word → Helper
  joins : Sym → Sym → Helper

-- helper k of an office grammar of S symbols
abbrev pub helper : ℕ → ℕ → Sym
helper S k = symbol_of (S + k)

abbrev pub is_for : W.Word → Helper → Bool
is_for x (for_word y) = eqb y.0 x.0
is_for x (joins X Y) = false

-- the place of a word's helper
unfoldable pub place_of : W.Word → List Helper → ℕ
place_of x [] = 0
place_of x (h ∷ hs) = pick (is_for x h) 0 (suc (place_of x hs))

-- the helpers, and behind them one for a word that has none; and for each word of a body
unfoldable pub with_word : W.Word → List Helper → List Helper
with_word x [] = for_word x ∷ []
with_word x (h ∷ hs) = h ∷ pick (is_for x h) hs (with_word x hs)

unfoldable pub with_words : List Item → List Helper → List Helper
unfolding with_word
with_words [] hs = hs
with_words (symbol A ∷ l) hs = with_words l hs
with_words (spoken x ∷ l) hs = with_words l (with_word x hs)

-- the symbol of an item
unfoldable pub named : ℕ → List Helper → Item → Sym
unfolding place_of
named S hs (symbol A) = A
named S hs (spoken x) = helper S (place_of x hs)

-- symbols as one symbol, and the helpers that this takes, the first of which is helper k: one symbol is itself; of several the
-- first is joined with the rest
unfoldable pub chain_top : ℕ → ℕ → List Sym → Sym
chain_top S k [] = symbol_of 0
chain_top S k (X ∷ []) = X
chain_top S k (X ∷ Y ∷ l) = helper S k

unfoldable pub chain : ℕ → ℕ → List Sym → List Helper
unfolding chain_top
chain S k [] = []
chain S k (X ∷ []) = []
chain S k (X ∷ Y ∷ l) = joins X (chain_top S (suc k) (Y ∷ l)) ∷ chain S (suc k) (Y ∷ l)

-- with the helpers hs, which have the body's words: the head joins the first item with the rest, and the rest makes a chain
unfoldable pub pair_rule : ℕ → List Helper → Sym → ℕ → Item → List Item → R.Rule
unfolding named chain_top
pair_rule S hs A w x l = Pair A (named S hs x) (chain_top S (length hs) (map (named S hs) l)) w

unfoldable pub with_chain : ℕ → List Helper → List Item → List Helper
unfolding named chain
with_chain S hs l = hs ++ chain S (length hs) (map (named S hs) l)

-- the rule that an office rule becomes behind the helpers hs, and the helpers then. A body of one word stays a word rule; no
-- body is empty or one symbol
unfoldable pub becomes : ℕ → List Helper → OfficeRule → R.Rule
unfolding with_words pair_rule
becomes S hs (rule A w []) = Word A (word 0) w
becomes S hs (rule A w (symbol B ∷ [])) = Word A (word 0) w
becomes S hs (rule A w (spoken x ∷ [])) = Word A x w
becomes S hs (rule A w (x ∷ y ∷ l)) = pair_rule S (with_words (x ∷ y ∷ l) hs) A w x (y ∷ l)

unfoldable pub after : ℕ → List Helper → OfficeRule → List Helper
unfolding with_words with_chain
after S hs (rule A w []) = hs
after S hs (rule A w (x ∷ [])) = hs
after S hs (rule A w (x ∷ y ∷ l)) = with_chain S (with_words (x ∷ y ∷ l) hs) (y ∷ l)

-- rule by rule
unfoldable pub rules_behind : ℕ → List Helper → List OfficeRule → List R.Rule
unfolding becomes after
rules_behind S hs [] = []
rules_behind S hs (r ∷ rs) = becomes S hs r ∷ rules_behind S (after S hs r) rs

unfoldable pub helpers_behind : ℕ → List Helper → List OfficeRule → List Helper
unfolding after
helpers_behind S hs [] = hs
helpers_behind S hs (r ∷ rs) = helpers_behind S (after S hs r) rs

unfoldable pub helpers : Office → List Helper
unfolding helpers_behind
helpers o = helpers_behind o.symbols [] o.rules

-- a helper's one rule, of weight 0, and the rules of helpers from helper k on
abbrev pub helper_rule : Sym → Helper → R.Rule
helper_rule A (for_word x) = Word A x 0
helper_rule A (joins X Y) = Pair A X Y 0

unfoldable pub helper_rules : ℕ → ℕ → List Helper → List R.Rule
helper_rules S k [] = []
helper_rules S k (h ∷ hs) = helper_rule (helper S k) h ∷ helper_rules S (suc k) hs

-- the office's rules under their own numbers, then the helpers' by helper number
unfoldable pub convert : Office → Grammar
unfolding rules_behind helpers helper_rules
convert o = record {
  symbols = o.symbols + length (helpers o);
  words = o.words;
  rules = rules_behind o.symbols [] o.rules ++ helper_rules o.symbols 0 (helpers o);
}

-- 1 for a helper's rule, 0 for an office's
unfoldable pub marks : Office → List ℕ
unfolding helpers
marks o = map (λ r. 0) o.rules ++ map (λ h. 1) (helpers o)

-- the packed grammar of kind 4: the office's rules unmarked, the helpers' marked
unfoldable pub convert_marked : Office → Marked
unfolding rules_behind helpers helper_rules
convert_marked o = record {
  marking = true;
  symbols = o.symbols + length (helpers o);
  words = o.words;
  rules = map (λ r. marked r 0) (rules_behind o.symbols [] o.rules) ++ map (λ r. marked r 1) (helper_rules o.symbols 0 (helpers o));
}
