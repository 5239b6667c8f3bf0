-- Strings of at most 24 words padded to 24 bytes: the words, then zeros; for none 255, which is no word, then zeros. So the lesser of
-- two strings of one length is the one whose bytes come first. Nobody need believe this page. Assumes nothing.
use Rattle.std.specs.Prelude.{List, [], ◌∷◌, ◌++◌, ℕ, ◌-◌, eqb, ltb, get_or, set, take, replicate}
use Rattle.bits.specs.Bits.{pick}
use Rattle.phrases.specs.Phrases.{word_order}
use Rattle.phrases.specs.Enumeration.{is_less}
use Rattle.phrases.specs.Recursion.{Keeping}

-- a byte and zeros behind it: one word, and none
abbrev pub one_word : ℕ → List ℕ
one_word x = x ∷ replicate 23 0

abbrev pub no_string : List ℕ
no_string = one_word 255

-- the first i bytes of a, and then those of b
abbrev pub join : List ℕ → List ℕ → ℕ → List ℕ
join a b i = take i a ++ take (24 - i) b

-- the lesser of a padded string and of a word, and of two joined
unfoldable pub lesser_word : List ℕ → ℕ → List ℕ
lesser_word best x = pick (ltb x (get_or best 0 0)) (one_word x) best

unfoldable pub lesser_join : List ℕ → List ℕ → List ℕ → ℕ → List ℕ
lesser_join best a b i =
    pick (eqb (get_or a 0 0) 255) best
    (pick (eqb (get_or b 0 0) 255) best (pick (is_less (word_order (join a b i) best)) (join a b i) best))

abbrev pub padded : Keeping (List ℕ)
padded = record { missing = no_string; add_word = λ x best. lesser_word best x; add_join = λ i j a b best. lesser_join best a b i }

-- cell c of a table of padded strings, and a string put there
abbrev pub string_at : List (List ℕ) → ℕ → List ℕ
string_at t c = get_or t c []

abbrev pub put_string : List (List ℕ) → ℕ → List ℕ → List (List ℕ)
put_string t c s = set t c s
