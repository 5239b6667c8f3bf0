-- The three demands, of the exported functions: of the number that a call answers, its code, and of the slices that it was lent.
-- `grammar`, `sheet`, `out` .. are the numbers of a slice before the call, `work'` and `out'` those afterwards. Each exported function's
-- contract, in src/lib.rt, promises of every call the record with the function's name, of this page or, for open and next, of OneByOne; the
-- crate `calls` has the theorems about several calls. Every other name is defined on the page that its `use` line names. What is answered is
-- said by its meaning, in the terms of the documents; the equations with what is computed, which every contract has beside its record, are
-- Code's, and nobody need believe them.
use Rattle.std.specs.Prelude.{◌≡◌, ◌⊎◌, ◌↔◌, List, ◌++◌, ℕ, zero, suc, ◌≤◌, ◌<◌, Float, ℤ, pos, neg_ℤ, length, take, drop, replicate}
use Rattle.packing.specs.Meaning.{Grammar, Heard}
use Rattle.packing.specs.Parse.{Verdict, accepted, refused}
use Rattle.packing.specs.Grammar.{marked_block, grammar_block}
use Rattle.packing.specs.Conversion.{grammar_to_block, grammar_to_sheet, utterance_to_block, utterance_to_sheet, fitting, TurnsBack}
use Rattle.packing.specs.Rows.{◌∪◌, GrammarBlockRow, UtteranceBlockRow, HeardBlockRow, ListingRow, PanelRow, SpecimenRow, ReadingBlockRow}
use Rattle.packing.specs.Rows.{SharesRow, RangesRow, GrammarSheetRow, UtteranceSheetRow, OfficeSheetRow, OfficeSizeRow, OutputRow}
use Rattle.office.specs.Office.{Office}
use Rattle.office.specs.Sheet.{office_sheet}
use Rattle.office.specs.Conversion.{convert, convert_marked}
use Rattle.office_block.specs.Block.{office_to_block}
use Rattle.office_theory.specs.Matching.{Match}
use Rattle.derivation.specs.Derivation.{At, Tree}
use Rattle.derivation.specs.Rank.{◌∈◌}
use Rattle.checker.specs.Judgement.{OfDerivation, NoWalk, OtherWeight, Surplus, Judgement}
use Rattle.chance.specs.Chance.{asked_chance, Shown}
use Rattle.listing.specs.Conditions.{library, panel, Within, asked_listing}
use Rattle.listing_limits.specs.declared.Limits.{Limits}
use Rattle.listing.specs.Demand3.{RankedList, Demand3}
use Rattle.cost_changes.specs.Ranges as ranges
use Rattle.cost_changes.specs.Ranges.{nothing, outweighed, stands, Answers}
use Rattle.cost_changes.specs.Margins.{MarginEntry, list_numbers, Margins}
use Rattle.cost_ranges.specs.Conditions.{asked_ranges}
use Rattle.word_margins.specs.Conditions.{MarginsRow, asked_margins}
use Rattle.phrases.specs.Phrases.{Phrase, Precedes, Least}
use Rattle.specimen.specs.Conditions.{asked}
use Rattle.codes.specs.Demand1.{Demand1}

-- A conversion "answers the length written and changes nothing beyond it". Demand 2: accepted sheets and blocks turn into each other
-- without change.
pub record Converts (turn back : List ℕ → Verdict (List ℕ)) (Row : ℕ → Type 0) (given out : List ℕ) (code : ℤ) (out' : List ℕ) : Type 0 where
  pub demand_1 : Demand1 (fitting (turn given) out) (λ l n. (n ≡ length l) × (out' ≡ l ++ drop n out)) Row (out' ≡ out) code
  pub demand_2 : TurnsBack back given (λ n. code ≡ pos n) out'

abbrev pub GrammarToBlock : (sheet out : List ℕ) (code : ℤ) (out' : List ℕ) → Type 0
GrammarToBlock sheet out code out' = Converts grammar_to_block grammar_to_sheet (GrammarSheetRow ∪ OutputRow) sheet out code out'

abbrev pub GrammarToSheet : (block out : List ℕ) (code : ℤ) (out' : List ℕ) → Type 0
GrammarToSheet block out code out' = Converts grammar_to_sheet grammar_to_block (GrammarBlockRow ∪ OutputRow) block out code out'

-- The conversion of an office sheet: "The result is a packed grammar of kind 4 .. The office's derivations and the converted grammar's match
-- one to one, with equal weight" (document 02, N5). The block, as a conversion reads it and as every other service does, is of the
-- sheet's grammar o in normal form, with and without marks.
pub record Result (o : Office) (block : List ℕ) : Type 0 where
  pub marked : marked_block block ≡ accepted (convert_marked o)
  pub grammar : grammar_block block ≡ accepted (convert o)
  pub matching : (h : Heard) → Match o h

pub record OfficeToBlock (sheet out : List ℕ) (code : ℤ) (out' : List ℕ) : Type 0 where
  pub demand_1 : Demand1 (fitting (office_to_block sheet) out) (λ l n. (n ≡ length l) × (out' ≡ l ++ drop n out))
      (OfficeSheetRow ∪ OfficeSizeRow ∪ OutputRow) (out' ≡ out) code
  pub result : (n : ℕ) → code ≡ pos n → (o : Office) × (office_sheet sheet ≡ accepted o) × Result o (take n out')

abbrev pub UtteranceToBlock : (grammar sheet out : List ℕ) (code : ℤ) (out' : List ℕ) → Type 0
UtteranceToBlock grammar sheet out code out' =
    Converts (utterance_to_block grammar) (utterance_to_sheet grammar) (GrammarBlockRow ∪ UtteranceSheetRow ∪ OutputRow) sheet out code out'

abbrev pub UtteranceToSheet : (grammar block out : List ℕ) (code : ℤ) (out' : List ℕ) → Type 0
UtteranceToSheet grammar block out code out' =
    Converts (utterance_to_sheet grammar) (utterance_to_block grammar) (GrammarBlockRow ∪ UtteranceBlockRow ∪ OutputRow) block out code out'

-- The listing, of slots or of a graph, "answers m, the number found, and writes the m readings one after another": `RankedList` has demand 3's
-- list of a grammar and of what was heard. They are the least, in their order, and none is left out; "the work table is all zeros".
abbrev pub Lists : Limits → (Row : ℕ → Type 0) (grammar heard : List ℕ) (N : ℕ) (work out : List ℕ) (code : ℤ) (work' out' : List ℕ) → Type 0
Lists l Row grammar heard N work out code work' out' =
    Demand1 (asked_listing l grammar heard N (length work) (length out)) (λ b m. RankedList b.0 b.1 N work out (λ n. n ≡ m) work' out')
    (GrammarBlockRow ∪ HeardBlockRow ∪ Row) ((work' ≡ work) × (out' ≡ out)) code

pub record Listing (grammar heard : List ℕ) (N : ℕ) (work out : List ℕ) (code : ℤ) (work' out' : List ℕ) : Type 0 where
  pub demand_1 : Lists library ListingRow grammar heard N work out code work' out'
  pub demand_3 : Demand3 grammar heard N work out (λ m. code ≡ pos m) work' out'

-- "A panel for plan desks runs the same listing with at most 12 slots and 16 readings" (document 02, N8).
pub record PanelListing (grammar heard : List ℕ) (N : ℕ) (work out : List ℕ) (code : ℤ) (work' out' : List ℕ) : Type 0 where
  pub demand_1 : Lists panel PanelRow grammar heard N work out code work' out'
  pub demand_3 : Within panel grammar heard N → Demand3 grammar heard N work out (λ m. code ≡ pos m) work' out'

-- "within the panel's limits both give equal bytes": a call of each, with the same blocks, number wanted and slices, answers the same and leaves
-- the same behind, refusals included. `after` and `written` are work table and output after the library's call, `after'` and `written'` those
-- after the panel's.
abbrev pub EqualWithinPanel : Type 0
EqualWithinPanel =
    (grammar heard : List ℕ) (N : ℕ) → Within panel grammar heard N
    → (work out : List ℕ) (code code' : ℤ) (after written after' written' : List ℕ) → Listing grammar heard N work out code after written
    → PanelListing grammar heard N work out code' after' written' → (code' ≡ code) × (after' ≡ after) × (written' ≡ written)

-- Whatever is within the panel's limits, 159,744 numbers of work table and 608 bytes of output suffice: it is never refused with 22 or 23.
abbrev pub PanelRoom : Type 0
PanelRoom =
    (grammar heard : List ℕ) (N : ℕ) (work out : List ℕ) (code : ℤ) (work' out' : List ℕ) → PanelListing grammar heard N work out code work' out'
    → 159744 ≤ length work → 608 ≤ length out → ¬ (code ≡ neg_ℤ (pos 22)) × ¬ (code ≡ neg_ℤ (pos 23))

-- The check is lent nothing to write to, and "answers passes", with the code 0, "or a refusal": what is due is the first that holds in the order of
-- the table (Judgement). Demand 2: a reading passes exactly if it is the packing of a derivation with its true weight; and 34, 35 and 36 are
-- answered exactly if the table says so.
pub record Check (grammar heard reading : List ℕ) (code : ℤ) : Type 0 where
  pub due : Verdict Tree
  pub judgement : Judgement grammar heard reading due
  pub demand_1 : Demand1 due (λ t n. n ≡ 0) (GrammarBlockRow ∪ HeardBlockRow ∪ ReadingBlockRow) (Unit {0}) code
  pub demand_2 : (code ≡ pos 0) ↔ OfDerivation grammar heard reading
  pub no_walk : (code ≡ neg_ℤ (pos 34)) ↔ NoWalk grammar heard reading
  pub other_weight : (code ≡ neg_ℤ (pos 35)) ↔ OtherWeight grammar heard reading
  pub surplus : (code ≡ neg_ℤ (pos 36)) ↔ Surplus grammar heard reading

-- Document 02, N14: the chance is written, with the code 0, or nothing is. Where it is, the reading passes the check, and the float is near to
-- the exact product of its nodes' shares: `Shown` has "differs from P by at most m × P divided by 2 to the power 52" and "A reading of one node
-- is exact".
pub record Chance (grammar heard reading shares : List ℕ) (float : Float) (code : ℤ) (float' : Float) : Type 0 where
  pub due : Verdict Tree
  pub judgement : Judgement grammar heard reading due
  pub demand_1 : Demand1 (asked_chance grammar shares due) (λ t n. (n ≡ 0) × Shown grammar heard reading shares float')
      (GrammarBlockRow ∪ HeardBlockRow ∪ ReadingBlockRow ∪ SharesRow) (float' ≡ float) code

-- Document 02, N11, as C numbers: 0 none, 1 outweighed under some choice, 2 under none. Both weights are written on 1 and 2, and unchanged otherwise
abbrev pub ranges_number : ranges.Answer → ℕ
ranges_number nothing = 0
ranges_number (outweighed least greatest) = 1
ranges_number (stands least greatest) = 2

abbrev pub least_of : ranges.Answer → ℕ → ℕ
least_of nothing before = before
least_of (outweighed least greatest) before = least
least_of (stands least greatest) before = least

abbrev pub greatest_of : ranges.Answer → ℕ → ℕ
greatest_of nothing before = before
greatest_of (outweighed least greatest) before = greatest
greatest_of (stands least greatest) before = greatest

-- What is answered is the answer over all choices of costs between low and high: `Answers` has "over all choices", "both of them reached" and
-- "outweighed under no choice".
pub record CostRanges (grammar low high work : List ℕ) (least greatest : ℕ) (code : ℤ) (work' : List ℕ) (least' greatest' : ℕ) : Type 0 where
  pub demand_1 : Demand1 (asked_ranges grammar low high (length work))
      (λ b n. (a : ranges.Answer) × Answers b.0 b.1 b.2 a × (n ≡ ranges_number a) × (least' ≡ least_of a least) × (greatest' ≡ greatest_of a greatest)
      × (work' ≡ replicate (length work) 0))
      (GrammarBlockRow ∪ UtteranceBlockRow ∪ RangesRow) ((work' ≡ work) × (least' ≡ least) × (greatest' ≡ greatest)) code

-- Document 02, N12: the code is the number of entries, which stand at the front of the output, four numbers each. `Margins` has that
-- they are the list: "the least whole amount", "by amount, then slot, then word", "each entry must hold when the cost is changed and the listing run
-- afresh, and a fall smaller by one must bring none".
pub record WordMargins (grammar utterance work out : List ℕ) (code : ℤ) (work' out' : List ℕ) : Type 0 where
  pub demand_1 : Demand1 (asked_margins grammar utterance (length work) (length out))
      (λ b n. (l : List MarginEntry) × Margins b.0 b.1 l × (n ≡ length l) × (out' ≡ list_numbers l ++ drop (length (list_numbers l)) out)
      × (work' ≡ replicate (length work) 0))
      (GrammarBlockRow ∪ UtteranceBlockRow ∪ MarginsRow) ((work' ≡ work) × (out' ≡ out)) code

-- The least string with a property, whose length n is answered, stands at the front of the output; or there is none, 0 is answered and
-- nothing was written.
abbrev pub LeastWritten : (List ℕ → Type 0) → (n : ℕ) (out out' : List ℕ) → ℕ → Type 0
LeastWritten P n out out' m = ((s : List ℕ) × Least P s × (m ≡ n) × (out' ≡ s ++ drop n out)) ⊎ (((s : List ℕ) → ¬ P s) × (m ≡ 0) × (out' ≡ out))

-- The specimen is "the string that is least when compared word number by word number from the left" (document 02, N7).
pub record Specimen (grammar : List ℕ) (n : ℕ) (out : List ℕ) (code : ℤ) (out' : List ℕ) : Type 0 where
  pub demand_1 : Demand1 (asked 24 grammar n (length out)) (λ g m. LeastWritten (Phrase g n) n out out' m) (GrammarBlockRow ∪ SpecimenRow) (out' ≡ out) code

-- Document 02, N9: a first call looks for any phrase, a later one, with 0 for `first`, "finds some string in the output and writes the least
-- derivable one above it, or says end and writes nothing".
abbrev pub Sought : Grammar → (n first : ℕ) (out : List ℕ) → List ℕ → Type 0
Sought g n zero out s = Phrase g n s × Precedes (take n out) s
Sought g n (suc k) out s = Phrase g n s

pub record NextPhrase (grammar : List ℕ) (n first : ℕ) (out : List ℕ) (code : ℤ) (out' : List ℕ) : Type 0 where
  pub demand_1 : Demand1 (asked 6 grammar n (length out)) (λ g m. LeastWritten (Sought g n first out) n out out' m)
      (GrammarBlockRow ∪ SpecimenRow) (out' ≡ out) code

-- Demand 2 of two calls: the first answers n; the second, given the n numbers that the first wrote and room for what the first was
-- given, gives that back.
abbrev pub RoundTrip : (There Back : (given out : List ℕ) (code : ℤ) (out' : List ℕ) → Type 0) → Type 0
RoundTrip There Back =
    (given out out' : List ℕ) (n : ℕ) → There given out (pos n) out'
    → (room room' : List ℕ) (code : ℤ) → length given ≤ length room → Back (take n out') room code room'
    → (code ≡ pos (length given)) × (room' ≡ given ++ drop (length given) room)

pub record Demand2 : Type 0 where
  pub grammar_sheets : RoundTrip GrammarToBlock GrammarToSheet
  pub grammar_blocks : RoundTrip GrammarToSheet GrammarToBlock
  pub utterance_sheets : (grammar : List ℕ) → RoundTrip (UtteranceToBlock grammar) (UtteranceToSheet grammar)
  pub utterance_blocks : (grammar : List ℕ) → RoundTrip (UtteranceToSheet grammar) (UtteranceToBlock grammar)

-- N9 of a first call and then K later ones, each with the output as the call before left it: `out 0` is the output before them, and
-- `out (k + 1)` that after call k, which answers `code k`.
pub record Calls (grammar : List ℕ) (n K : ℕ) (code : ℕ → ℤ) (out : ℕ → List ℕ) : Type 0 where
  pub first_call : (f : ℕ) × NextPhrase grammar n (suc f) (out 0) (code 0) (out 1)
  pub later_call : (k : ℕ) → k < K → NextPhrase grammar n 0 (out (suc k)) (code (suc k)) (out (suc (suc k)))

-- They "hand out every derivable word string, each one time however many derivations it has, in ascending order of word numbers, one string a
-- call"; after the last they say "end".
pub record HandedOut (g : Grammar) (n K : ℕ) (code : ℕ → ℤ) (out : ℕ → List ℕ) : Type 0 where
  pub strings : List (List ℕ)
  pub every : (s : List ℕ) → s ∈ strings ↔ Phrase g n s
  pub ascending : (j k : ℕ) (s t : List ℕ) → At strings j s → At strings k t → j < k → Precedes s t
  pub handed : (k : ℕ) (s : List ℕ) → k ≤ K → At strings k s → (code k ≡ pos n) × (out (suc k) ≡ s ++ drop n (out 0))
  pub ended : (k : ℕ) → k ≤ K → length strings ≤ k → (code k ≡ pos 0) × (out (suc k) ≡ out k)

abbrev pub EveryPhrase : Type 0
EveryPhrase =
    (grammar : List ℕ) (g : Grammar) (n K : ℕ) (code : ℕ → ℤ) (out : ℕ → List ℕ) → asked 6 grammar n (length (out 0)) ≡ accepted g
    → Calls grammar n K code out → HandedOut g n K code out
