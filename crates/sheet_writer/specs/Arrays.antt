-- The fields of a grammar and of an utterance that stand in a flat array of numbers, for the contracts of the writers: document 01, "Packed
-- blocks". Assumes nothing. Nobody need believe this page: no service's promise names it.
use Rattle.std.specs.Prelude.{Bool, List, [], ◌∷◌, ◌++◌, ℕ, zero, suc, ◌+◌, ◌-◌, ◌*◌, ◌/◌, get_or}
use Rattle.bits.specs.Bits.{pack}
use Rattle.bits.specs.Width.{width_of}
use Rattle.bits.specs.Fields.{Fld, fld, bits_of_all}
use Rattle.packing.specs.Source.{flds}
use Rattle.packing.specs.Grammar.{kind_number, marked_rules_entries}
use Rattle.packing.specs.Utterance.{candidates_entries, slots_entries}
use Rattle.packing.specs.Flat.{marked_rules_at, candidates_of, slots_of}

-- the fields of n rules of an array, from rule r on, with their marks where rules bear marks
abbrev pub rules_fields : Bool → ℕ → ℕ → List ℕ → List ℕ → ℕ → ℕ → List Fld
rules_fields marking S W l marks r n = flds (marked_rules_entries marking S W (marked_rules_at l marks r n))

-- six numbers for each of n rules, from rule r on: the five of one array, and the mark that stands in the other
abbrev pub marked_row : List ℕ → List ℕ → ℕ → List ℕ
marked_row l marks r =
    get_or l (5 * r) 0 ∷ get_or l (5 * r + 1) 0 ∷ get_or l (5 * r + 2) 0 ∷ get_or l (5 * r + 3) 0 ∷ get_or l (5 * r + 4) 0 ∷ get_or marks r 0 ∷ []

unfoldable pub marked_rows : List ℕ → List ℕ → ℕ → ℕ → List ℕ
marked_rows l marks r zero = []
marked_rows l marks r (suc n) = marked_row l marks r ++ marked_rows l marks (suc r) n

-- the fields of n candidates, whose words and costs stand from place p on
abbrev pub candidates_fields : ℕ → List ℕ → ℕ → ℕ → List Fld
candidates_fields W l p n = flds (candidates_entries W 0 (candidates_of l n p))

-- the fields of n slots, the first of which stands at place p
abbrev pub slots_fields : ℕ → List ℕ → ℕ → ℕ → List Fld
slots_fields W l p n = flds (slots_entries W (slots_of l n p))

-- how many bits n slots take that have m numbers together: a count each, and a word and a cost for each two of the others
abbrev pub slots_bits : ℕ → ℕ → ℕ → ℕ
slots_bits W n m = 3 * n + (m - n) / 2 * (width_of (W - 1) + 16)

-- the fields of a grammar of n rules, and of an utterance of n slots
abbrev pub grammar_fields : Bool → ℕ → ℕ → ℕ → List ℕ → List ℕ → List Fld
grammar_fields marking S W n l marks = fld 4 (kind_number marking) ∷ fld 6 S ∷ fld 8 W ∷ fld 9 n ∷ rules_fields marking S W l marks 0 n

abbrev pub utterance_fields : ℕ → ℕ → List ℕ → List Fld
utterance_fields W n l = fld 4 2 ∷ fld 6 n ∷ slots_fields W l 0 n

-- the block of fields
abbrev pub block_of : List Fld → List ℕ
block_of fs = pack (bits_of_all fs)
