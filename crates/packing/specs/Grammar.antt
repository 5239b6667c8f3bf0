-- Grammar blocks and sheets: document 01, "Packed blocks" and the rows grammar block and sheet of "Where each check
-- stands"; and document 02, N5, "a packed grammar of kind 4, in which each rule has one more bit at its end, and in its sheet a
-- sixth number". Where both kinds are meant, a Bool says whether rules bear marks: kind 4, or else kind 1. Assumes nothing.
use Rattle.std.specs.Prelude.{List, [], ◌∷◌, ◌++◌, Bool, true, false, ◌&&◌, ℕ, ◌+◌, ◌-◌, ◌*◌, ltb, eqb, length, get_or}
use Rattle.bits.specs.Bits.{pick, pack, field, ended}
use Rattle.bits.specs.Width.{width_of}
use Rattle.bits.specs.Fields.{bits_of_all}
use Rattle.packing.specs.Meaning.{Grammar, symbol_of, word, MarkedRule, marked, Marked, grammar_of, unmarked}
use Rattle.packing.specs.Parse.{Parse, parsed, failed, ◌⟫◌, Verdict, accepted, refused, ◌then◌, verdict_of, finish}
use Rattle.packing.specs.Source.{Source, bytes, numbers, field_at, within, Entry, entry, values, flds, Field}
use Rattle.packing.specs.Alike.{unlike_from}
use Rattle.packing.specs.declared.Rule as R
use Rattle.packing.specs.declared.Rule.TheVariants.{Pair, Word}

-- the fields: a block's kind; S, W and R; a rule's kind, symbols, words and weight, a word rule's last number, which
-- takes no bits, and a mark. In a block no kind, weight or mark is too great for its width, so 42 is a sheet's alone
abbrev pub block_kind : ℕ → ℕ → Field
block_kind kind n = within 4 kind kind n

abbrev pub size_field : ℕ → ℕ → Field
size_field width most = within width 1 most 3

abbrev pub rule_kind : Field
rule_kind = within 1 0 1 42

abbrev pub symbol : ℕ → Field
symbol S = within (width_of (S - 1)) 0 (S - 1) 4

abbrev pub rule_word : ℕ → Field
rule_word W = within (width_of (W - 1)) 0 (W - 1) 5

abbrev pub weight_field : Field
weight_field = within 16 0 65535 42

abbrev pub nothing : Field
nothing = within 0 0 0 42

abbrev pub mark_field : Field
mark_field = within 1 0 1 42

-- the body of a rule of a kind: two symbols, or a word
abbrev pub first_of : ℕ → ℕ → ℕ → Field
first_of S W kind = pick (eqb kind 0) (symbol S) (rule_word W)

abbrev pub second_of : ℕ → ℕ → Field
second_of S kind = pick (eqb kind 0) (symbol S) nothing

abbrev pub rule_of : ℕ → ℕ → ℕ → ℕ → ℕ → R.Rule
rule_of kind head w first second = pick (eqb kind 0) (Pair (symbol_of head) (symbol_of first) (symbol_of second) w) (Word (symbol_of head) (word first) w)

unfoldable pub rule_from : Source → ℕ → ℕ → ℕ → Parse R.Rule
rule_from src S W at =
    field_at src at rule_kind ⟫ λ kind at. field_at src at (symbol S) ⟫ λ head at. field_at src at weight_field ⟫ λ w at.
    field_at src at (first_of S W kind) ⟫ λ first at. field_at src at (second_of S kind) ⟫ λ second at.
    parsed (rule_of kind head w first second) at

-- kind, head and body are equal
abbrev pub alike : R.Rule → R.Rule → Bool
alike (Pair h x y w) (Pair h' x' y' w') = eqb h.0 h'.0 && eqb x.0 x'.0 && eqb y.0 y'.0
alike (Pair h x y w) (Word h' x' w') = false
alike (Word h x w) (Pair h' x' y' w') = false
alike (Word h x w) (Word h' x' w') = eqb h.0 h'.0 && eqb x.0 x'.0

-- a rule's mark: behind the rule, or 0 where rules bear none
abbrev pub mark_from : Bool → Source → ℕ → Parse ℕ
mark_from false src at = parsed 0 at
mark_from true src at = field_at src at mark_field

unfoldable pub marked_rule_from : Bool → Source → ℕ → ℕ → ℕ → Parse MarkedRule
marked_rule_from marking src S W at = rule_from src S W at ⟫ λ r at. mark_from marking src at ⟫ λ m at. parsed (marked r m) at

-- the mark is no part of it
abbrev pub marked_alike : MarkedRule → MarkedRule → Bool
marked_alike (marked r m) (marked r' m') = alike r r'

-- n rules behind the earlier ones
abbrev pub rules_from : Bool → Source → ℕ → ℕ → ℕ → ℕ → List MarkedRule → Parse (List MarkedRule)
rules_from marking src S W n at rs = unlike_from (marked_rule_from marking src S W) marked_alike 6 n at rs

-- a sheet that has not the 3 + 5 R or 3 + 6 R numbers of its grammar
abbrev pub numbers_per_rule : Bool → ℕ
numbers_per_rule marking = pick marking 6 5

abbrev pub unfit : Bool → Source → ℕ → Bool
unfit marking (bytes missing s) R = false
unfit marking (numbers s) R = pick (eqb (length s) (3 + numbers_per_rule marking * R)) false true

-- S, W and R, then the rules
unfoldable pub grammar_from : Bool → Source → ℕ → Parse Marked
grammar_from marking src at =
    field_at src at (size_field 6 32) ⟫ λ S at. field_at src at (size_field 8 200) ⟫ λ W at. field_at src at (size_field 9 256) ⟫ λ R at.
    pick (unfit marking src R) (failed 41)
    (rules_from marking src S W R at [] ⟫ λ rs at. parsed (record { marking = marking; symbols = S; words = W; rules = rs }) at)

-- whether rules bear marks: in a block its kind says it, and in a sheet its length, which R decides
abbrev pub kind_number : Bool → ℕ
kind_number marking = pick marking 4 1

abbrev pub marking_of : Source → Bool
marking_of (bytes missing s) = eqb (field s 0 4) 4
marking_of (numbers s) = eqb (length s) (3 + 6 * get_or s 2 0)

-- the meaning of a block of a kind, and of a sheet of a kind
unfoldable pub block_by : Bool → List ℕ → Verdict Marked
block_by marking s =
    finish (ended s) 7 (field_at (bytes 1 s) 0 (block_kind (kind_number marking) 2) ⟫ λ kind at. grammar_from marking (bytes 1 s) at)

unfoldable pub sheet_by : Bool → List ℕ → Verdict Marked
sheet_by marking s = pick (ltb (length s) 3) (refused 41) (verdict_of (grammar_from marking (numbers s) 0))

-- the meaning of a grammar block, and of a grammar sheet, with marks. An empty block has no kind, and as kind 1 gives 1
unfoldable pub marked_block : List ℕ → Verdict Marked
marked_block s = block_by (marking_of (bytes 1 s)) s

unfoldable pub marked_sheet : List ℕ → Verdict Marked
marked_sheet s = sheet_by (marking_of (numbers s)) s

-- the grammar of a block: services take either kind, and see no marks
unfoldable pub grammar_block : List ℕ → Verdict Grammar
grammar_block s = marked_block s then λ m. accepted (grammar_of m)

-- the fields of a grammar with their values, without and with marks, and its block and its sheet
abbrev pub rule_entries : ℕ → ℕ → R.Rule → List Entry
rule_entries S W (Pair h x y w) =
    entry rule_kind 0 ∷ entry (symbol S) h.0 ∷ entry weight_field w ∷ entry (symbol S) x.0 ∷ entry (symbol S) y.0 ∷ []
rule_entries S W (Word h x w) =
    entry rule_kind 1 ∷ entry (symbol S) h.0 ∷ entry weight_field w ∷ entry (rule_word W) x.0 ∷ entry nothing 0 ∷ []

unfoldable pub rules_entries : ℕ → ℕ → List R.Rule → List Entry
rules_entries S W [] = []
rules_entries S W (r ∷ rs) = rule_entries S W r ++ rules_entries S W rs

unfoldable pub grammar_entries : Grammar → List Entry
grammar_entries g =
    entry (size_field 6 32) g.symbols ∷ entry (size_field 8 200) g.words ∷ entry (size_field 9 256) (length g.rules)
    ∷ rules_entries g.symbols g.words g.rules

abbrev pub mark_entries : Bool → ℕ → List Entry
mark_entries false m = []
mark_entries true m = entry mark_field m ∷ []

abbrev pub marked_rule_entries : Bool → ℕ → ℕ → MarkedRule → List Entry
marked_rule_entries marking S W (marked r m) = rule_entries S W r ++ mark_entries marking m

unfoldable pub marked_rules_entries : Bool → ℕ → ℕ → List MarkedRule → List Entry
marked_rules_entries marking S W [] = []
marked_rules_entries marking S W (r ∷ rs) = marked_rule_entries marking S W r ++ marked_rules_entries marking S W rs

unfoldable pub marked_entries : Marked → List Entry
marked_entries m =
    entry (size_field 6 32) m.symbols ∷ entry (size_field 8 200) m.words ∷ entry (size_field 9 256) (length m.rules)
    ∷ marked_rules_entries m.marking m.symbols m.words m.rules

abbrev pub kind_entry : Bool → Entry
kind_entry marking = entry (block_kind (kind_number marking) 2) (kind_number marking)

unfoldable pub block_of_marked : Marked → List ℕ
block_of_marked m = pack (bits_of_all (flds (kind_entry m.marking ∷ marked_entries m)))

unfoldable pub sheet_of_marked : Marked → List ℕ
sheet_of_marked m = values (marked_entries m)

-- the block of a grammar of kind 1
abbrev pub block_of_grammar : Grammar → List ℕ
block_of_grammar g = block_of_marked (unmarked g)
