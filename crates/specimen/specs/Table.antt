-- The specimen's code as functions on lists of numbers: a table of padded strings, one for each symbol and length, shorter lengths first.
-- Nobody need believe this page: phrases' theorems say what the table holds. Assumes nothing.
use Rattle.std.specs.Prelude.{List, ℕ, ◌+◌, ◌-◌, ◌*◌, ◌%◌}
use Rattle.packing.specs.Flat.{rule_at}
use Rattle.packing.specs.Loop.{iter}
use Rattle.packing.specs.Meaning.{symbol_of, word}
use Rattle.packing.specs.declared.Sym.{Sym}
use Rattle.packing.specs.declared.Rule.{Rule}
use Rattle.packing.specs.declared.Rule.TheVariants.{Pair, Word}
use Rattle.phrases.specs.Recursion.{by_rule, fill, cell_of, least_at}
use Rattle.phrases.specs.Padded.{lesser_word, lesser_join, padded, string_at, put_string}

-- a rule whose symbols have cells in the table, and whose word is a byte: what every rule of an accepted grammar is already
abbrev pub fitted : Rule → Rule
fitted (Pair h b c w) = Pair h (symbol_of (b.0 % 32)) (symbol_of (c.0 % 32)) w
fitted (Word h x w) = Word h (word (x.0 % 256)) w

abbrev pub fitted_at : List ℕ → ℕ → Rule
fitted_at rules r = fitted (rule_at rules r)

-- the lesser of the best string and of two joined, with a left part of length j; of such for every j; of what a rule makes
unfoldable pub lesser_split : List (List ℕ) → ℕ → Sym → Sym → ℕ → List ℕ → List ℕ
unfolding lesser_join
lesser_split t m b c j best = lesser_join best (string_at t (cell_of b j)) (string_at t (cell_of c (m - j))) j

abbrev pub lesser_pair : List (List ℕ) → ℕ → Sym → Sym → List ℕ → List ℕ
lesser_pair t m b c best = iter (λ x y. lesser_split t m b c (y + 1) x) best (m - 1)

unfoldable pub lesser_rule : List (List ℕ) → Sym → ℕ → List ℕ → Rule → List ℕ
unfolding by_rule
lesser_rule t a m best rule = by_rule (lesser_split t m) (λ x best. lesser_word best x) a m best rule

-- the string of cell c, and the table with the strings of all lengths up to n
abbrev pub least_of_cell : List ℕ → ℕ → List (List ℕ) → ℕ → List ℕ
least_of_cell rules count t number = least_at padded (fitted_at rules) count string_at t number

abbrev pub fill_table : List ℕ → ℕ → ℕ → List (List ℕ) → List (List ℕ)
fill_table rules count n t = fill put_string (least_of_cell rules count) t (32 * n)
