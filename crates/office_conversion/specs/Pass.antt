-- The conversion's arrays: document 02, request N5, "Conversion". Stores out of range do nothing, so that the counts are right
-- beyond the limits too. Nobody need believe this page: `read_grammar` does not name it. Stands on office's Conversion and Flat.
use Rattle.std.specs.Prelude.{◌≡◌, List, [], ◌∷◌, ◌++◌, ℕ, zero, suc, ◌+◌, ◌*◌, ◌≤◌, ◌<◌, eqb, ltb, length, get_or}
use Rattle.bits.specs.Bits.{pick}
use Rattle.packing.specs.Meaning.{symbol_of, word}
use Rattle.packing.specs.Store.{store_all}
use Rattle.packing.specs.declared.Sym.{Sym}
use Rattle.packing.specs.declared.Rule as K
use Rattle.packing.specs.declared.Rule.TheVariants.{Pair, Word}
use Rattle.office.specs.Office.{Item, symbol, spoken, OfficeRule, rule, Body}
use Rattle.office.specs.Conversion.{Helper, place_of, helper_rules, rules_behind, helpers_behind}

-- the five numbers of each rule
abbrev pub row_of : K.Rule → List ℕ
row_of (Pair h x y w) = 0 ∷ h.0 ∷ w ∷ x.0 ∷ y.0 ∷ []
row_of (Word h x w) = 1 ∷ h.0 ∷ w ∷ x.0 ∷ 0 ∷ []

unfoldable pub rows_of : List K.Rule → List ℕ
rows_of [] = []
rows_of (r ∷ rs) = row_of r ++ rows_of rs

-- the symbol of the item at place p of the sheet, where a word's is in the table
abbrev pub symbol_at : List ℕ → List ℕ → ℕ → Sym
symbol_at s t p = symbol_of (pick (eqb (get_or s p 0) 0) (get_or s (p + 1) 0) (get_or t (get_or s (p + 1) 0) 0))

unfoldable pub symbols_at : List ℕ → List ℕ → ℕ → ℕ → List Sym
symbols_at s t p zero = []
symbols_at s t p (suc n) = symbol_at s t p ∷ symbols_at s t (p + 2) n

-- the symbol of a word's helper, and 0 where it has none
unfoldable pub tag : ℕ → List Helper → ℕ → ℕ
tag S hs x = pick (ltb (place_of (word x) hs) (length hs)) (S + place_of (word x) hs) 0

-- behind the helpers hs and the rules rs of a grammar of S symbols and R rules, where the rules' array began as a: the helpers'
-- count, the words' table, and in the array the rules from place 0 on and the helpers' rules from rule R on
pub record Holds (S R : ℕ) (a : List ℕ) (hs : List Helper) (rs : List K.Rule) (t rules : List ℕ) (k : ℕ) : Type 0 where
  pub few : length rs ≤ R
  pub count : k ≡ length hs
  pub size : length t ≡ 200
  pub table : (x : ℕ) → x < 200 → get_or t x 0 ≡ tag S hs x
  pub array : rules ≡ store_all (store_all a (5 * R) (rows_of (helper_rules S 0 hs))) 0 (rows_of rs)

-- what the pass asks of a rule: a body of one word or of two to six items, with words below 200
abbrev pub WordsBelow : List Item → Type 0
WordsBelow [] = Unit {0}
WordsBelow (symbol A ∷ l) = WordsBelow l
WordsBelow (spoken x ∷ l) = (x.0 < 200) × WordsBelow l

abbrev pub Passable : OfficeRule → Type 0
Passable (rule A w l) = Body l × WordsBelow l

abbrev pub AllPassable : List OfficeRule → Type 0
AllPassable [] = Unit {0}
AllPassable (r ∷ rs) = Passable r × AllPassable rs

-- what the pass leaves of the rules qs
pub record Converted (S R : ℕ) (qs : List OfficeRule) (a rules : List ℕ) (k : ℕ) : Type 0 where
  pub count : k ≡ length (helpers_behind S [] qs)
  pub few : k ≤ 2560
  pub array : rules ≡ store_all (store_all a (5 * R) (rows_of (helper_rules S 0 (helpers_behind S [] qs)))) 0 (rows_of (rules_behind S [] qs))
