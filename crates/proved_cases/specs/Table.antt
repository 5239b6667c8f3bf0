-- The cases of document 01 that are marked P, "Checked examples", and those of document 02's requests, as one table. A row says what a service comes to
-- by its definition, which can be run, and what that means, in the documents' own terms: `Ranked`, `OfDerivation`, `Least`, `Answers`, `Margins`,
-- `Match`. proofs/Cases has the one theorem, that all rows hold. Nobody need believe this page: it shows the definitions at work.
use Rattle.std.specs.Prelude.{◌≡◌, List, [], ◌∷◌, ◌++◌, map, ℕ, zero, suc, ◌+◌, min, length, take, drop, replicate}
use Rattle.std.proofs.Math.Option.{Option, none, some}
use Rattle.packing.specs.declared.Rule as R
use Rattle.packing.specs.declared.Rule.TheVariants.{Pair, Word}
use Rattle.packing.specs.Meaning.{symbol_of, word, Grammar, Utterance, Candidate, candidate, Edge, edge, Heard, slots, graph, last_place, redrawn, Reading}
use Rattle.packing.specs.Parse.{Verdict, accepted, refused}
use Rattle.packing.specs.Grammar.{block_of_grammar}
use Rattle.packing.specs.Utterance.{block_of_utterance}
use Rattle.packing.specs.Heard.{block_of_heard}
use Rattle.packing.specs.Reading.{block_of_reading}
use Rattle.derivation.specs.Derivation.{At, Tree, Derivation}
use Rattle.derivation.specs.Heard.{packed}
use Rattle.derivation.specs.Rank.{Number}
use Rattle.chart.specs.WorkTable.{table_size}
use Rattle.listing.specs.Conditions as Conditions
use Rattle.listing.specs.Conditions.{library}
use Rattle.traced_readings.specs.Ranked.{Ranked}
use Rattle.packing.specs.Read.{counted}
use Rattle.listing.specs.Listing.{list, output_after}
use Rattle.open_listing.specs.Stands.{found_ranks}
use Rattle.open_listing.specs.Open.{opening, opened_of, place_of, table_after, Left, left}
use Rattle.open_listing.specs.Model.{searched, next_of}
use Rattle.open_answer.specs.Answer as A
use Rattle.checker.specs.Judgement.{OfDerivation, Judgement}
use Rattle.checker.specs.Check.{check, passed}
use Rattle.phrases.specs.Phrases.{Phrase, Precedes, Least}
use Rattle.specimen.specs.Specimen as Specimen
use Rattle.specimen.specs.Specimen.{output_of}
use Rattle.next_phrase.specs.NextPhrase as NextPhrase
use Rattle.cost_changes.specs.Ranges as Ranges
use Rattle.cost_changes.specs.Ranges.{Answers, outweighed, stands}
use Rattle.cost_changes.specs.Margins.{MarginEntry, entry, Margins}
use Rattle.word_margins.specs.WordMargins as WordMargins
use Rattle.cost_ranges.specs.CostRanges as CostRanges
use Rattle.office.specs.Office.{Office}
use Rattle.office.specs.Sheet.{office_sheet}
use Rattle.office_block.specs.Block.{office_to_block}
use Rattle.office_theory.specs.Matching.{Match}

-- a row: the block of a grammar and of what was heard; the readings that the listing finds, with the lister's work table and output; its answer m, and
-- the bytes that it writes in front of the output; a reading block that passes the check, and one that it refuses; the string that the specimen and the
-- next phrase find, and the output before and after; what the panel answers, lent so many numbers of work table and bytes of output; what is answered
-- for costs between low and high, with a work table of so many numbers; the words to listen to again, with a work table and an output of so many
-- numbers; the block of an office's sheet; what opening answers, lent a work table of so many numbers; the call of an open listing after k readings that hands
-- out one more, with the ranks that it finds, and the one that says that there are no more
pub data Case : Type 0 where
  grammar : (g : Grammar) (block : List ℕ) → Case
  heard : (g : Grammar) (h : Heard) (block : List ℕ) → Case
  lists : (g : Grammar) (h : Heard) (wanted : ℕ) (readings : List (List ℕ)) → Case
  finds : (g : Grammar) (h : Heard) (wanted m : ℕ) (bytes : List ℕ) → Case
  passes : (g : Grammar) (h : Heard) (block : List ℕ) → Case
  refuses : (g : Grammar) (h : Heard) (block : List ℕ) (number : ℕ) → Case
  specimen : (g : Grammar) (n : ℕ) (out : List ℕ) (found : Option (List ℕ)) (after : List ℕ) → Case
  next : (g : Grammar) (n call : ℕ) (out : List ℕ) (found : Option (List ℕ)) (after : List ℕ) → Case
  panel : (g : Grammar) (h : Heard) (wanted work out : ℕ) (answer : Verdict ℕ) → Case
  ranges : (g : Grammar) (low high : Utterance) (work : ℕ) (answer : Verdict Ranges.Answer) → Case
  margins : (g : Grammar) (u : Utterance) (work out : ℕ) (answer : Verdict (List MarginEntry)) → Case
  office : (sheet block : List ℕ) → Case
  opens : (g : Grammar) (h : Heard) (work : ℕ) (answer : Verdict (Unit {0})) → Case
  hands : (g : Grammar) (h : Heard) (k found : ℕ) (reading : List ℕ) → Case
  ends : (g : Grammar) (h : Heard) (k : ℕ) → Case

abbrev pub listed_for : Grammar → Heard → ℕ → Verdict (List (List ℕ))
listed_for g h wanted = list library (block_of_grammar g) (block_of_heard g.words h) wanted 8192 1024

abbrev pub checked_for : Grammar → Heard → List ℕ → Verdict Tree
checked_for g h block = check (block_of_grammar g) (block_of_heard g.words h) block

abbrev pub ranges_of : Grammar → (low high : Utterance) (work : ℕ) → Verdict Ranges.Answer
ranges_of g low high work = CostRanges.ranges (block_of_grammar g) (block_of_utterance g.words low) (block_of_utterance g.words high) work

abbrev pub margins_for : Grammar → Utterance → (work out : ℕ) → Verdict (List MarginEntry)
margins_for g u work out = WordMargins.margins (block_of_grammar g) (block_of_utterance g.words u) work out

-- the work table of an open listing that handed out k readings, zeros before the first; and the call after these, with an output of 73 bytes
abbrev pub table_left : Grammar → Heard → ℕ → List ℕ
table_left g h k = table_after searched g h (table_size g.symbols (last_place h) 256) k

abbrev pub output_lent : List ℕ
output_lent = replicate 73 9

abbrev pub call_after : Grammar → Heard → ℕ → Left
call_after g h k = next_of (block_of_grammar g) (block_of_heard g.words h) (place_of k) (table_left g h k) output_lent

-- this is the reading of the derivation with rank n
abbrev pub OfRank : Grammar → Heard → ℕ → List ℕ → Type 0
OfRank g h n block = (t : Tree) × Ranked g h n t × (block ≡ packed g h t)

-- these are the readings of the derivations by rank, as many as are wanted or as there are
pub record ByRank (g : Grammar) (h : Heard) (wanted : ℕ) (readings : List (List ℕ)) : Type 0 where
  pub derivations : ℕ
  pub finitely_many : Number (Derivation g h) derivations
  pub as_many : length readings ≡ min wanted derivations
  pub each : (k : ℕ) (block : List ℕ) → At readings k block → OfRank g h (suc k) block

-- the least string with a property, or that there is none
abbrev pub LeastOf : (List ℕ → Type 0) → Option (List ℕ) → Type 0
LeastOf P none = (s : List ℕ) → ¬ P s
LeastOf P (some s) = Least P s

-- what a first call looks for, and a later one, with 0 for `call`
abbrev pub Sought : Grammar → (n call : ℕ) (out : List ℕ) → List ℕ → Type 0
Sought g n zero out s = Phrase g n s × Precedes (take n out) s
Sought g n (suc call) out s = Phrase g n s

-- what an answer means; of a refusal its number is all
abbrev pub Meaning : {A : Type 0} → (A → Type 0) → Verdict A → Type 0
Meaning P (accepted a) = P a
Meaning P (refused n) = Unit {0}

abbrev pub Holds : Case → Type 0
Holds (grammar g block) = block_of_grammar g ≡ block
Holds (heard g h block) = block_of_heard g.words h ≡ block
Holds (lists g h wanted readings) = (listed_for g h wanted ≡ accepted readings) × ByRank g h wanted readings
Holds (finds g h wanted m bytes) =
    (counted (listed_for g h wanted) ≡ accepted m) × ((out : List ℕ) → output_after (listed_for g h wanted) out ≡ bytes ++ drop (length bytes) out)
Holds (passes g h block) =
    (passed (checked_for g h block) ≡ accepted tt) × OfDerivation (block_of_grammar g) (block_of_heard g.words h) block
Holds (refuses g h block number) =
    (checked_for g h block ≡ refused number) × Judgement (block_of_grammar g) (block_of_heard g.words h) block (refused number)
Holds (specimen g n out found after) =
    (Specimen.specimen (block_of_grammar g) n (length out) ≡ accepted found) × (output_of (accepted found) out ≡ after) × LeastOf (Phrase g n) found
Holds (next g n call out found after) =
    (NextPhrase.next (block_of_grammar g) n call out ≡ accepted found) × (output_of (accepted found) out ≡ after) × LeastOf (Sought g n call out) found
Holds (panel g h wanted work out answer) = counted (list Conditions.panel (block_of_grammar g) (block_of_heard g.words h) wanted work out) ≡ answer
Holds (ranges g low high work answer) = (ranges_of g low high work ≡ answer) × Meaning (Answers g low high) answer
Holds (margins g u work out answer) = (margins_for g u work out ≡ answer) × Meaning (Margins g u) answer
Holds (office sheet block) =
    (office_to_block sheet ≡ accepted block) × ((o : Office) × (office_sheet sheet ≡ accepted o) × ((h : Heard) → Match o h))
Holds (opens g h work answer) = opened_of (opening (block_of_grammar g) (block_of_heard g.words h) work) ≡ answer
Holds (hands g h k found reading) =
    (call_after g h k ≡ left A.Reading (table_left g h (suc k)) (reading ++ drop (length reading) output_lent))
    × (found_ranks g h (table_left g h (suc k)) ≡ found_ranks g h (table_left g h k) + found) × OfRank g h (suc k) reading
Holds (ends g h k) = (call_after g h k ≡ left A.NoMore (table_left g h k) output_lent) × Number (Derivation g h) k

-- a row that holds, and rows that all do
pub data Row : Case → Type 0 where
  row : (c : Case) → Holds c → Row c

infixr 10 ◌and◌
pub data AllHold : List Case → Type 0 where
  all : AllHold []
  ◌and◌ : {c : Case} {rows : List Case} → Row c → AllHold rows → AllHold (c ∷ rows)

abbrev pub pair_rule : ℕ → ℕ → ℕ → ℕ → R.Rule
pair_rule A B C w = Pair (symbol_of A) (symbol_of B) (symbol_of C) w

abbrev pub word_rule : ℕ → ℕ → ℕ → R.Rule
word_rule A x w = Word (symbol_of A) (word x) w

abbrev pub offer : ℕ → ℕ → Candidate
offer x cost = candidate (word x) cost

abbrev pub reading_with : ℕ → ℕ → List ℕ → Reading
reading_with n w numbers = record { slots = n; weight = w; walk = numbers }

-- readings of slots, as blocks
abbrev pub walked : Grammar → List Reading → List (List ℕ)
walked g readings = map (block_of_reading (length g.rules)) readings

-- grammar G of document 01, and n slots of word 0 at cost 0, of which U has four
abbrev pub G : Grammar
G = record { symbols = 1; words = 1; rules = pair_rule 0 0 0 1 ∷ word_rule 0 0 0 ∷ [] }

abbrev pub U : ℕ → Utterance
U n = replicate n (offer 0 0 ∷ [])

abbrev pub two_words : Grammar
two_words = record { symbols = 1; words = 2; rules = word_rule 0 0 5 ∷ word_rule 0 1 3 ∷ [] }

abbrev pub two_parts : Grammar
two_parts = record {
  symbols = 3;
  words = 4;
  rules = pair_rule 0 1 2 0 ∷ word_rule 1 0 5 ∷ word_rule 1 1 3 ∷ word_rule 2 2 1 ∷ word_rule 2 3 3 ∷ [];
}

abbrev pub one_rule : Grammar
one_rule = record { symbols = 1; words = 1; rules = word_rule 0 0 0 ∷ [] }

-- N7's: the word rule of word 1 before that of word 0; and 0 to 1 2, 1 to word 1, 1 to 2 1, 2 to word 0, 2 to 2 2
abbrev pub falling_words : Grammar
falling_words = record { symbols = 1; words = 2; rules = word_rule 0 1 0 ∷ word_rule 0 0 0 ∷ [] }

abbrev pub longer_left : Grammar
longer_left = record {
  symbols = 3;
  words = 2;
  rules = pair_rule 0 1 2 0 ∷ word_rule 1 1 0 ∷ pair_rule 1 2 1 0 ∷ word_rule 2 0 0 ∷ pair_rule 2 2 2 0 ∷ [];
}

-- N9's: 0 to 0 1 weight 1, 0 to word 2, 1 to word 0, 1 to word 2, 0 to word 1 weight 3
abbrev pub any_tail : Grammar
any_tail = record {
  symbols = 2;
  words = 3;
  rules = pair_rule 0 0 1 1 ∷ word_rule 0 2 0 ∷ word_rule 1 0 0 ∷ word_rule 1 2 0 ∷ word_rule 0 1 3 ∷ [];
}

abbrev pub first_reading : Reading
first_reading = reading_with 4 3 (0 ∷ 1 ∷ 0 ∷ 1 ∷ 0 ∷ 1 ∷ 1 ∷ [])

abbrev pub second_reading : Reading
second_reading = reading_with 4 3 (0 ∷ 1 ∷ 0 ∷ 0 ∷ 1 ∷ 1 ∷ 1 ∷ [])

abbrev pub third_reading : Reading
third_reading = reading_with 4 3 (0 ∷ 0 ∷ 1 ∷ 1 ∷ 0 ∷ 1 ∷ 1 ∷ [])

abbrev pub fourth_reading : Reading
fourth_reading = reading_with 4 3 (0 ∷ 0 ∷ 1 ∷ 0 ∷ 1 ∷ 1 ∷ 1 ∷ [])

abbrev pub fifth_reading : Reading
fifth_reading = reading_with 4 3 (0 ∷ 0 ∷ 0 ∷ 1 ∷ 1 ∷ 1 ∷ 1 ∷ [])

-- N6's: two words that weigh the same with their rules, of which the second was heard better
abbrev pub heard_better : Grammar
heard_better = record { symbols = 1; words = 2; rules = word_rule 0 0 0 ∷ word_rule 0 1 1 ∷ pair_rule 0 0 0 0 ∷ [] }

abbrev pub heard_twice : Utterance
heard_twice = (offer 0 2 ∷ offer 1 1 ∷ []) ∷ (offer 0 2 ∷ offer 1 1 ∷ []) ∷ []

abbrev pub N6-cases : List Case
N6-cases =
    lists heard_better (slots ((offer 0 2 ∷ offer 1 1 ∷ []) ∷ [])) 8 (walked heard_better (reading_with 1 2 (1 ∷ []) ∷ reading_with 1 2 (0 ∷ []) ∷ []))
    ∷ lists heard_better (slots heard_twice) 8 (walked heard_better
    (reading_with 2 4 (2 ∷ 1 ∷ 1 ∷ []) ∷ reading_with 2 4 (2 ∷ 1 ∷ 0 ∷ []) ∷ reading_with 2 4 (2 ∷ 0 ∷ 1 ∷ []) ∷ reading_with 2 4 (2 ∷ 0 ∷ 0 ∷ []) ∷ []))
    ∷ []

-- N8's, of the panel: within its limits, and each of its refusals; that 12 slots have 16 readings, among 58,786, the program `cases` says
abbrev pub N8-cases : List Case
N8-cases =
    panel G (slots (U 4)) 16 640 96 (accepted 5)
    ∷ panel G (slots (U 12)) 16 4991 128 (refused 22)
    ∷ panel G (slots (U 12)) 16 4992 127 (refused 23)
    ∷ panel G (slots (U 12)) 17 8192 1024 (refused 58)
    ∷ panel G (slots (U 12)) 256 8192 1024 (refused 58)
    ∷ panel G (slots (U 12)) 0 8192 1024 (refused 21)
    ∷ panel G (slots (U 12)) 257 8192 1024 (refused 21)
    ∷ panel G (slots (U 13)) 16 8192 1024 (refused 57)
    ∷ panel G (slots (U 13)) 0 8192 1024 (refused 57)
    ∷ panel G (slots (U 13)) 300 8192 1024 (refused 57)
    ∷ []

-- N11's: words 0 and 1 in slot 0, words 2 and 3 in slot 1, at these costs
abbrev pub costing : ℕ → ℕ → ℕ → ℕ → Utterance
costing a b c d = (offer 0 a ∷ offer 1 b ∷ []) ∷ (offer 2 c ∷ offer 3 d ∷ []) ∷ []

abbrev pub N11-cases : List Case
N11-cases =
    ranges two_parts (costing 0 0 0 0) (costing 0 0 0 0) 36 (accepted (stands 4 4))
    ∷ ranges two_parts (costing 0 0 0 0) (costing 9 1 1 9) 36 (accepted (stands 4 6))
    ∷ ranges two_parts (costing 0 0 0 0) (costing 9 2 2 9) 36 (accepted (stands 4 8))
    ∷ ranges two_parts (costing 0 0 0 0) (costing 9 3 2 9) 36 (accepted (outweighed 4 9))
    ∷ ranges two_parts (costing 0 65534 0 0) (costing 0 65535 0 0) 36 (refused 59)
    ∷ ranges two_parts ((offer 0 65535 ∷ []) ∷ (offer 2 0 ∷ []) ∷ []) ((offer 0 65535 ∷ []) ∷ (offer 2 0 ∷ []) ∷ []) 36 (accepted Ranges.nothing)
    ∷ ranges two_parts (costing 0 0 0 0) (costing 0 0 0 0) 35 (refused 22)
    ∷ []

-- N12's, with their bytes
abbrev pub N12-cases : List Case
N12-cases =
    grammar two_parts
    (0x10 ∷ 0xc1 ∷ 0x00 ∷ 0xa0 ∷ 0x00 ∷ 0x01 ∷ 0xa8 ∷ 0x00 ∷ 0x29 ∷ 0x40 ∷ 0x00 ∷ 0xdc ∷ 0x00 ∷ 0x03 ∷ 0x60 ∷ 0x00 ∷ 0x3c ∷ [])
    ∷ heard two_parts (slots (costing 4 7 3 2)) (0x20 ∷ 0x90 ∷ 0x00 ∷ 0x08 ∷ 0x80 ∷ 0x03 ∷ 0xa8 ∷ 0x00 ∷ 0x0f ∷ 0x00 ∷ 0x02 ∷ [])
    ∷ margins two_parts (costing 4 7 3 2) 36 16 (accepted (entry 2 0 1 14 ∷ entry 2 1 3 14 ∷ []))
    ∷ margins two_parts (costing 4 7 3 2) 35 16 (refused 22)
    ∷ margins two_parts (costing 4 7 3 2) 36 15 (refused 43)
    ∷ heard two_parts (slots (costing 4 3 0 9)) (0x20 ∷ 0x90 ∷ 0x00 ∷ 0x08 ∷ 0x80 ∷ 0x01 ∷ 0xa8 ∷ 0x00 ∷ 0x03 ∷ 0x00 ∷ 0x09 ∷ [])
    ∷ margins two_parts (costing 4 3 0 9) 36 16 (accepted (entry 4 0 0 10 ∷ []))
    ∷ heard two_parts (slots (costing 4 65535 3 2)) (0x20 ∷ 0x90 ∷ 0x00 ∷ 0x08 ∷ 0xff ∷ 0xff ∷ 0xa8 ∷ 0x00 ∷ 0x0f ∷ 0x00 ∷ 0x02 ∷ [])
    ∷ margins two_parts (costing 4 65535 3 2) 36 16 (accepted (entry 2 1 3 14 ∷ []))
    ∷ heard two_parts (slots ((offer 0 5 ∷ offer 2 8 ∷ []) ∷ (offer 2 0 ∷ offer 3 9 ∷ []) ∷ []))
    (0x20 ∷ 0x90 ∷ 0x00 ∷ 0x0b ∷ 0x00 ∷ 0x04 ∷ 0x28 ∷ 0x00 ∷ 0x03 ∷ 0x00 ∷ 0x09 ∷ [])
    ∷ margins two_parts ((offer 0 5 ∷ offer 2 8 ∷ []) ∷ (offer 2 0 ∷ offer 3 9 ∷ []) ∷ []) 36 16 (accepted [])
    ∷ []

abbrev pub P-cases : List Case
P-cases =
    grammar G (0x10 ∷ 0x40 ∷ 0x40 ∷ 0x40 ∷ 0x00 ∷ 0x09 ∷ 0x00 ∷ 0x00 ∷ 0x00 ∷ [])
    ∷ heard G (slots (U 4)) (0x21 ∷ 0x08 ∷ 0x00 ∷ 0x00 ∷ 0x80 ∷ 0x00 ∷ 0x08 ∷ 0x00 ∷ 0x00 ∷ 0x80 ∷ 0x00 ∷ 0x00 ∷ [])
    ∷ lists G (slots (U 4)) 8 (walked G (first_reading ∷ second_reading ∷ third_reading ∷ fourth_reading ∷ fifth_reading ∷ []))
    ∷ finds G (slots (U 4)) 5 5
    (0x31 ∷ 0x00 ∷ 0x00 ∷ 0x00 ∷ 0xD5 ∷ 0x80 ∷ 0x31 ∷ 0x00 ∷ 0x00 ∷ 0x00 ∷ 0xD3 ∷ 0x80 ∷ 0x31 ∷ 0x00 ∷ 0x00 ∷ 0x00 ∷ 0xCD ∷ 0x80
    ∷ 0x31 ∷ 0x00 ∷ 0x00 ∷ 0x00 ∷ 0xCB ∷ 0x80 ∷ 0x31 ∷ 0x00 ∷ 0x00 ∷ 0x00 ∷ 0xC7 ∷ 0x80 ∷ [])
    ∷ lists G (slots (U 4)) 3 (walked G (first_reading ∷ second_reading ∷ third_reading ∷ []))
    ∷ lists G (slots (U 1)) 8 (walked G (reading_with 1 0 (1 ∷ []) ∷ []))
    ∷ lists G (slots (U 2)) 8 (walked G (reading_with 2 1 (0 ∷ 1 ∷ 1 ∷ []) ∷ []))
    ∷ lists G (slots (U 3)) 8 (walked G (reading_with 3 2 (0 ∷ 1 ∷ 0 ∷ 1 ∷ 1 ∷ []) ∷ reading_with 3 2 (0 ∷ 0 ∷ 1 ∷ 1 ∷ 1 ∷ []) ∷ []))
    ∷ passes G (slots (U 4)) (0x31 ∷ 0x00 ∷ 0x00 ∷ 0x00 ∷ 0xD5 ∷ 0x80 ∷ [])
    ∷ refuses G (slots (U 4)) (0x31 ∷ 0x00 ∷ 0x00 ∷ 0x01 ∷ 0x15 ∷ 0x80 ∷ []) 35
    ∷ lists two_words (slots ((offer 0 0 ∷ offer 1 2 ∷ []) ∷ [])) 8 (walked two_words (reading_with 1 5 (0 ∷ []) ∷ reading_with 1 5 (1 ∷ []) ∷ []))
    ∷ lists two_parts (slots ((offer 0 0 ∷ offer 1 0 ∷ []) ∷ (offer 2 0 ∷ offer 3 0 ∷ []) ∷ [])) 8 (walked two_parts
    (reading_with 2 4 (0 ∷ 2 ∷ 3 ∷ []) ∷ reading_with 2 6 (0 ∷ 2 ∷ 4 ∷ []) ∷ reading_with 2 6 (0 ∷ 1 ∷ 3 ∷ []) ∷ reading_with 2 8 (0 ∷ 1 ∷ 4 ∷ []) ∷ []))
    ∷ specimen G 3 (9 ∷ 9 ∷ 9 ∷ 9 ∷ []) (some (0 ∷ 0 ∷ 0 ∷ [])) (0 ∷ 0 ∷ 0 ∷ 9 ∷ [])
    ∷ specimen one_rule 2 (9 ∷ 9 ∷ []) none (9 ∷ 9 ∷ [])
    ∷ grammar falling_words (0x10 ∷ 0x40 ∷ 0x80 ∷ 0x50 ∷ 0x00 ∷ 0x06 ∷ 0x00 ∷ 0x00 ∷ 0x00 ∷ [])
    ∷ specimen falling_words 1 (9 ∷ []) (some (0 ∷ [])) (0 ∷ [])
    ∷ grammar longer_left
    (0x10 ∷ 0xc0 ∷ 0x80 ∷ 0xa0 ∷ 0x00 ∷ 0x01 ∷ 0xa8 ∷ 0x00 ∷ 0x04 ∷ 0x80 ∷ 0x00 ∷ 0x4e ∷ 0x00 ∷ 0x00 ∷ 0x20 ∷ 0x00 ∷ 0x0a ∷ [])
    ∷ specimen longer_left 3 (9 ∷ 9 ∷ 9 ∷ []) (some (0 ∷ 1 ∷ 0 ∷ [])) (0 ∷ 1 ∷ 0 ∷ [])
    ∷ specimen longer_left 4 (9 ∷ 9 ∷ 9 ∷ 9 ∷ 9 ∷ []) (some (0 ∷ 0 ∷ 1 ∷ 0 ∷ [])) (0 ∷ 0 ∷ 1 ∷ 0 ∷ 9 ∷ [])
    ∷ specimen longer_left 1 (9 ∷ []) none (9 ∷ [])
    ∷ grammar any_tail
    (0x10 ∷ 0x80 ∷ 0xc0 ∷ 0xa0 ∷ 0x00 ∷ 0x0b ∷ 0x00 ∷ 0x00 ∷ 0x58 ∷ 0x00 ∷ 0x01 ∷ 0x80 ∷ 0x00 ∷ 0x50 ∷ 0x00 ∷ 0x1a ∷ [])
    ∷ next any_tail 2 1 (9 ∷ 9 ∷ 9 ∷ []) (some (1 ∷ 0 ∷ [])) (1 ∷ 0 ∷ 9 ∷ [])
    ∷ next any_tail 2 0 (1 ∷ 0 ∷ 9 ∷ []) (some (1 ∷ 2 ∷ [])) (1 ∷ 2 ∷ 9 ∷ [])
    ∷ next any_tail 2 0 (1 ∷ 2 ∷ 9 ∷ []) (some (2 ∷ 0 ∷ [])) (2 ∷ 0 ∷ 9 ∷ [])
    ∷ next any_tail 2 0 (2 ∷ 0 ∷ 9 ∷ []) (some (2 ∷ 2 ∷ [])) (2 ∷ 2 ∷ 9 ∷ [])
    ∷ next any_tail 2 0 (2 ∷ 2 ∷ 9 ∷ []) none (2 ∷ 2 ∷ 9 ∷ [])
    ∷ next any_tail 3 0 (1 ∷ 1 ∷ 9 ∷ []) (some (1 ∷ 2 ∷ 0 ∷ [])) (1 ∷ 2 ∷ 0 ∷ [])
    ∷ next any_tail 3 0 (1 ∷ 255 ∷ 255 ∷ []) (some (2 ∷ 0 ∷ 0 ∷ [])) (2 ∷ 0 ∷ 0 ∷ [])
    ∷ []

-- N1's: U redrawn; four places, with an edge over two of the three steps, so that a path of two edges has zeros behind its reading; of three places one
-- edge from the first to the last at cost 7, and one that goes only to the second; N3's, a graph in which the first of two words was not heard
abbrev pub edge_of : ℕ → ℕ → ℕ → ℕ → Edge
edge_of i k x c = edge i k (word x) c

abbrev pub four_places : Heard
four_places = graph (record { places = 4; edges = edge_of 0 1 0 0 ∷ edge_of 1 2 0 0 ∷ edge_of 0 2 0 3 ∷ edge_of 2 3 0 0 ∷ [] })

abbrev pub one_edge : Heard
one_edge = graph (record { places = 3; edges = edge_of 0 2 0 7 ∷ [] })

abbrev pub no_path : Heard
no_path = graph (record { places = 3; edges = edge_of 0 1 0 0 ∷ [] })

abbrev pub one_heard : Heard
one_heard = graph (record { places = 2; edges = edge_of 0 1 0 65535 ∷ edge_of 0 1 1 0 ∷ [] })

abbrev pub N1-cases : List Case
N1-cases =
    heard G (graph (redrawn (U 4))) (82 ∷ 132 ∷ 0 ∷ 64 ∷ 0 ∷ 1 ∷ 16 ∷ 0 ∷ 0 ∷ 67 ∷ 0 ∷ 0 ∷ 12 ∷ 128 ∷ 0 ∷ 0 ∷ [])
    ∷ lists G (graph (redrawn (U 4))) 8
    ((97 ∷ 0 ∷ 0 ∷ 0 ∷ 208 ∷ 8 ∷ 20 ∷ 20 ∷ 24 ∷ [])
    ∷ (97 ∷ 0 ∷ 0 ∷ 0 ∷ 208 ∷ 4 ∷ 12 ∷ 20 ∷ 24 ∷ [])
    ∷ (97 ∷ 0 ∷ 0 ∷ 0 ∷ 200 ∷ 8 ∷ 20 ∷ 20 ∷ 24 ∷ [])
    ∷ (97 ∷ 0 ∷ 0 ∷ 0 ∷ 200 ∷ 4 ∷ 12 ∷ 20 ∷ 24 ∷ [])
    ∷ (97 ∷ 0 ∷ 0 ∷ 0 ∷ 196 ∷ 4 ∷ 12 ∷ 20 ∷ 24 ∷ []) ∷ [])
    ∷ heard G four_places (82 ∷ 4 ∷ 0 ∷ 64 ∷ 0 ∷ 1 ∷ 16 ∷ 0 ∷ 0 ∷ 2 ∷ 0 ∷ 1 ∷ 136 ∷ 96 ∷ 0 ∷ 0 ∷ [])
    ∷ lists G four_places 8
    ((96 ∷ 192 ∷ 0 ∷ 0 ∷ 144 ∷ 8 ∷ 24 ∷ 48 ∷ []) ∷ (96 ∷ 192 ∷ 0 ∷ 0 ∷ 136 ∷ 8 ∷ 24 ∷ 48 ∷ [])
    ∷ (96 ∷ 128 ∷ 0 ∷ 1 ∷ 16 ∷ 80 ∷ 96 ∷ 0 ∷ []) ∷ [])
    ∷ passes G four_places (96 ∷ 128 ∷ 0 ∷ 1 ∷ 16 ∷ 80 ∷ 96 ∷ [])
    ∷ refuses G four_places (96 ∷ 128 ∷ 0 ∷ 1 ∷ 16 ∷ 80 ∷ 96 ∷ 0 ∷ []) 36
    ∷ refuses G four_places (96 ∷ 128 ∷ 0 ∷ 1 ∷ 80 ∷ 80 ∷ 96 ∷ []) 35
    ∷ refuses G four_places (96 ∷ 128 ∷ 0 ∷ 1 ∷ 16 ∷ 16 ∷ 96 ∷ []) 34
    ∷ lists G one_edge 8 ((96 ∷ 64 ∷ 0 ∷ 1 ∷ 224 ∷ 0 ∷ 0 ∷ []) ∷ [])
    ∷ lists G no_path 8 []
    ∷ lists two_words one_heard 8 ((96 ∷ 64 ∷ 0 ∷ 0 ∷ 224 ∷ 64 ∷ []) ∷ [])
    ∷ []

-- N5's: a sheet of four rules, and its block, with seven helpers
abbrev pub N5-cases : List Case
N5-cases =
    office
    (2 ∷ 4 ∷ 4 ∷ 0 ∷ 5 ∷ 3 ∷ 1 ∷ 0 ∷ 0 ∷ 1 ∷ 1 ∷ 2 ∷ 1 ∷ 1 ∷ 1 ∷ 1 ∷ 1 ∷ 1 ∷ 2 ∷ 2 ∷ 1 ∷ 3 ∷ 1 ∷ 1 ∷ 0 ∷ 7 ∷ 4 ∷ 1 ∷ 0 ∷ 0 ∷ 1 ∷ 1 ∷ 2 ∷ 1 ∷ 2 ∷ [])
    (66 ∷ 65 ∷ 1 ∷ 96 ∷ 0 ∷ 5 ∷ 36 ∷ 68 ∷ 0 ∷ 5 ∷ 4 ∷ 0 ∷ 9 ∷ 88 ∷ 0 ∷ 0 ∷ 114 ∷ 116 ∷ 128 ∷ 0 ∷ 12 ∷ 192 ∷ 0 ∷ 41 ∷ 0 ∷ 0 ∷ 4 ∷ 245 ∷ 0 ∷ 0 ∷ 246 ∷ 0 ∷ 0
    ∷ 103 ∷ 0 ∷ 0 ∷ 24 ∷ 160 ∷ 0 ∷ 0 ∷ 206 ∷ [])
    ∷ []

-- N2's: of G and U the readings one by one, the first call with ten found ranks, one for each span, and the calls behind it with 2, 1, 1 and 2 more
abbrev pub N2-cases : List Case
N2-cases =
    opens G (slots (U 4)) 10240 (accepted tt)
    ∷ opens G (slots (U 4)) 10239 (refused 22)
    ∷ hands G (slots (U 4)) 0 10 (0x31 ∷ 0x00 ∷ 0x00 ∷ 0x00 ∷ 0xD5 ∷ 0x80 ∷ [])
    ∷ hands G (slots (U 4)) 1 2 (0x31 ∷ 0x00 ∷ 0x00 ∷ 0x00 ∷ 0xD3 ∷ 0x80 ∷ [])
    ∷ hands G (slots (U 4)) 2 1 (0x31 ∷ 0x00 ∷ 0x00 ∷ 0x00 ∷ 0xCD ∷ 0x80 ∷ [])
    ∷ hands G (slots (U 4)) 3 1 (0x31 ∷ 0x00 ∷ 0x00 ∷ 0x00 ∷ 0xCB ∷ 0x80 ∷ [])
    ∷ hands G (slots (U 4)) 4 2 (0x31 ∷ 0x00 ∷ 0x00 ∷ 0x00 ∷ 0xC7 ∷ 0x80 ∷ [])
    ∷ ends G (slots (U 4)) 5
    ∷ []

-- the table
abbrev pub cases : List Case
cases = P-cases ++ N1-cases ++ N2-cases ++ N5-cases ++ N6-cases ++ N8-cases ++ N11-cases ++ N12-cases
